-- What is asked of a node's children.
use Rattle.std.specs.Prelude.{ℕ, Bool, not}
use Rattle.tape.specs.File.{Tape}
use Rattle.tape.specs.Tree.{children}
use Rattle.tape.specs.Found.{Step}
use Rattle.render.specs.Shape.{is_text, is_open, is_content_of}
use Rattle.render.specs.First.{first_with, any}

-- `has_content`: a child besides attributes, closes and blank texts
unfoldable pub has_content_of : Tape → ℕ → Bool
has_content_of t k = any (is_content_of t) (children t k)

-- `is_plain_text`: no child is a MarkerOpen
unfoldable pub is_plain_text_of : Tape → ℕ → Bool
is_plain_text_of t k = not (any (is_open t) (children t k))

-- the first Text child
unfoldable pub first_text_of : Tape → ℕ → Step
first_text_of t k = first_with (is_text t) (children t k)
