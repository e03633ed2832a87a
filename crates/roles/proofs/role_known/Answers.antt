use Rattle.roles.proofs.Roles.{known_usfm, known_figure, known_ref, known_char, known_other}
use Rattle.roles.proofs.role_known.Goals as goal

pub returns-then-is_entry : goal.returns-then-is_entry
returns-then-is_entry c = search known_usfm

pub returns-then-is_entry-2 : goal.returns-then-is_entry-2
returns-then-is_entry-2 c = search known_figure

pub returns-then-is_ref_name : goal.returns-then-is_ref_name
returns-then-is_ref_name c = search known_ref

pub returns-then-e-eq-CHARACTER : goal.returns-then-e-eq-CHARACTER
returns-then-e-eq-CHARACTER c = search known_char

pub returns-else-e-eq-CHARACTER : goal.returns-else-e-eq-CHARACTER
returns-else-e-eq-CHARACTER c = search known_other
