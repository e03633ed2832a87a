use Rattle.attrs.proofs.Keys.{key_lemma, key_gloss, key_href, key_loc, key_link, key_id, key_who, key_default}
use Rattle.attrs.proofs.default_key.Goals as goal

pub returns-then-is_word : goal.returns-then-is_word
returns-then-is_word c = search key_lemma

pub returns-then-same : goal.returns-then-same
returns-then-same c = search key_gloss

pub returns-then-same-2 : goal.returns-then-same-2
returns-then-same-2 c = search key_href

pub returns-then-same-3 : goal.returns-then-same-3
returns-then-same-3 c = search key_loc

pub returns-then-same-4 : goal.returns-then-same-4
returns-then-same-4 c = search key_link

pub returns-then-same-5 : goal.returns-then-same-5
returns-then-same-5 c = search key_id

pub returns-then-begins_with : goal.returns-then-begins_with
returns-then-begins_with c = search key_who

pub returns-else-begins_with : goal.returns-else-begins_with
returns-else-begins_with c = search key_default
