-- Every definition that the text of a tape rests on, opened by one name: for tables of examples.
use Prim.Native.Nat.{ℕ}
use mathlib.Core.List.{flatten}
use lib.ListN.{replicate}
use Rattle.parts.specs.Bytes.{Bytes}
use Rattle.events.specs.Text.{Outcome}
use Rattle.parts.specs.Bytes.{same, begins, first_at}
use Rattle.chars.specs.Decimal.{digits, decimal}
use Rattle.chars.specs.Escape.{escaped_byte, escape}
use Rattle.chars.specs.Range.{within, in_any}
use Rattle.chars.specs.Space.{white_space, is_white, is_ascii_white}
use Rattle.chars.specs.Utf8.{table37, fits, row_len, seq_len, step, cut_at, characters, is_sequence, every, is_utf8, point, code_of, is_boundary}
use Rattle.words.specs.Words.{step_of, chars_of, white, solid, take_while, drop_while, keep, drop_end, onto, pieces, nonempty, words, trim_start, trim_end, trim, is_blank_of, white_len, word_len, after_word, last_of, joined}
use Rattle.texts.specs.Text.{hard_spaces, body_of, starts_white, ends_white, blank_lead, normalize_text, space_if, written, has_break, split_breaks, segments}
use Rattle.tape.specs.File.{le16, le32, node_fields_of, node_of, entry_fields_of, entry_of, records_of, tape_in, sections_of, tape_of, node_at, entry_at, text_at_of, entry_name, is_synthetic, is_nested, bears_marker, info_at, number_at, element_of, base_len}
use Rattle.tape.specs.Name.{strip, bare, ends_name_of, in_name_of, name_in_of, marker_name}
use Rattle.tape.specs.Tree.{is_close, holds, child_before, first_child, last_held, sibling_past, next_sibling, left, along, walk_from, children, siblings, up_to, without, found, from_first}
use Rattle.nest.specs.Decide.{deep_from_of, too_deep, awaited, match_from_of, all_matched_of, root_ends_of, sound}
use Rattle.nest.specs.Nest.{container, close, part_of}
use Rattle.admit.specs.Decide.{all_below, laid_out, small, good_byte, good_entry, good_names, label_cut, good_node, good_nodes, refusal_in, refusal}
use Rattle.render.specs.Children.{has_content_of, first_text_of, is_plain_text_of}
use Rattle.render.specs.First.{first_with, any}
use Rattle.render.specs.Follow.{is_solid, next_solid_of, inline_at_of, inline_follows_of, followed}
use Rattle.render.specs.Label.{second_or, label_of}
use Rattle.render.specs.Note.{first_or, lead_text, caller_or, note_caller_of, remainder, text_under, category_text_of, trimmed_at, written_category, step_text, first_words, book_code_of, book_rest_of, unless_empty, periph_alt, cell_align_of, align_word}
use Rattle.render.specs.Shape.{closed_by, shape_by, unknown_shape_of, is_inline_shape, is_block_shape, inline_category, inline_marker, is_inline_of, block_marker, is_top_level_block_of, trims_after_of, is_element_of, is_row, is_category_marker_of, is_blank_text, is_content_of}
use Rattle.attrs.specs.Attr.{closes_at, quoted_from, quoted_len, unquoted, shown, value_from, value_at, equals, has_equals, key_in_of, keyed, pairs_from, pairs_in, is_word_marker, default_key, key_for, keyed_for, attribute_body, body_pairs, pairs_at, pairs_along, attributes_of}
use Rattle.attrs.specs.Walk.{first_of}
use Rattle.fold.specs.Fold.{slot_by, slot_of, free, claim_of, own_text, texts_of, number_in, is_some, fold_from, fold_at}
use Rattle.figure.specs.Figure.{if_legacy, legacy_at, split, field_at, trimmed_text, described_by, valued, legacy_pairs, caption_of}
use Rattle.tags.specs.Items.{value_of, attr_bytes, attrs_bytes, new_line, bytes_of, render}
use Rattle.tags.specs.Names.{name_of}
use Rattle.events.specs.Event.{rawly, escaped as events_escaped, perhaps, collected, element, asided, besides}
use Rattle.events.specs.Pairing.{chapter_id_of, verse_id_of, after, end_of, chapter_attrs_of, verse_attrs_of, book_attrs, book_items, items_of, last_ends, paired}
use Rattle.events.specs.Text.{any_chapter, first_state_of, items_of_tape, text_of as events_text_of, fitting, outcome_by, outcome}
use Rattle.events.specs.Walk.{unbroken, breaks, segmented, broken, style, styled, unclosed, role_of_shape, role_of_category, role_by, role_of, is_ref, can_link, link_of, linked, figure_as, marker_as, node_in_of, child_of, note_child_of, normalized, inline_turn, inline_from, inline_all, note_text, note_turn_of, note_all, inside, is_known, is_cell_of, cell_in, cells_along, cells, row_e, rows_e, table_e, holder, sidebar_in, periph_in, place_of, is_figure, block_turn, blocks_from, blocks_all_of, blocks_e, events_within, events_of}

-- what a file and a buffer of so many zeros give
unfoldable pub answered : Bytes → ℕ → Outcome
unfolding flatten same begins first_at digits decimal escaped_byte escape within in_any white_space is_white is_ascii_white table37 fits row_len seq_len step cut_at characters is_sequence every is_utf8 point code_of is_boundary step_of chars_of white solid take_while drop_while keep drop_end onto pieces nonempty words trim_start trim_end trim is_blank_of white_len word_len after_word last_of joined hard_spaces body_of starts_white ends_white blank_lead normalize_text space_if written has_break split_breaks segments le16 le32 node_fields_of node_of entry_fields_of entry_of records_of tape_in sections_of tape_of node_at entry_at text_at_of entry_name is_synthetic is_nested bears_marker info_at number_at strip bare ends_name_of in_name_of name_in_of marker_name is_close holds child_before first_child last_held sibling_past next_sibling left along walk_from children siblings up_to without deep_from_of too_deep awaited match_from_of all_matched_of root_ends_of sound container close part_of all_below laid_out small good_byte good_entry good_names label_cut good_node good_nodes refusal_in refusal base_len element_of has_content_of is_plain_text_of first_text_of first_with any is_solid next_solid_of inline_at_of inline_follows_of followed second_or label_of first_or lead_text caller_or note_caller_of remainder text_under category_text_of trimmed_at written_category step_text first_words book_code_of book_rest_of unless_empty periph_alt cell_align_of align_word closed_by shape_by unknown_shape_of is_inline_shape is_block_shape inline_category inline_marker is_inline_of block_marker is_top_level_block_of trims_after_of is_element_of is_row is_category_marker_of is_blank_text is_content_of closes_at quoted_from quoted_len unquoted shown value_from value_at equals has_equals key_in_of keyed pairs_from pairs_in is_word_marker default_key key_for keyed_for attribute_body body_pairs pairs_at pairs_along attributes_of first_of slot_by slot_of free claim_of own_text texts_of number_in is_some fold_from fold_at if_legacy legacy_at split field_at trimmed_text described_by valued legacy_pairs caption_of value_of attr_bytes attrs_bytes new_line bytes_of render name_of rawly events_escaped perhaps collected element asided besides chapter_id_of verse_id_of after end_of chapter_attrs_of verse_attrs_of book_attrs book_items items_of last_ends paired any_chapter first_state_of items_of_tape events_text_of fitting outcome_by outcome unbroken breaks segmented broken style styled unclosed role_of_shape role_of_category role_by role_of is_ref can_link link_of linked figure_as marker_as node_in_of child_of note_child_of normalized inline_turn inline_from inline_all note_text note_turn_of note_all inside is_known is_cell_of cell_in cells_along cells row_e rows_e table_e holder sidebar_in periph_in place_of is_figure from_first block_turn blocks_from blocks_all_of blocks_e events_within events_of
answered file room = outcome file (replicate room 0)
