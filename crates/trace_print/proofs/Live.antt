-- The lines of live buffers.
use Rattle.std.proofs.Common.{◌≡◌, ℕ, List, [], sym, ap, ◌∙◌}
use Rattle.std.specs.Prelude.{Option, Some, None, ◌==◌, Bool}
use Rattle.editor_model.specs.Editor.{Live}
use Rattle.plain_machine.specs.Lines.{shown_live}
use Rattle.trace_print.specs.Dumped.{buffer_lines}

pub live_shown : (symbols : List (List ℕ)) (current id : ℕ) (is : Bool) (found : Option Live) (l : Live) → is ≡ (id == current) → found ≡ Some l → buffer_lines symbols is l ≡ shown_live symbols current (id, found)
live_shown symbols current id is found l e h = ap (λ b. buffer_lines symbols b l) e ∙ ap (λ o. shown_live symbols current (id, o)) (sym h)

pub none_shown : (symbols : List (List ℕ)) (current id : ℕ) (found : Option Live) → found ≡ None → [] ≡ shown_live symbols current (id, found)
none_shown symbols current id found h = ap (λ o. shown_live symbols current (id, o)) (sym h)
