-- The lines of the dump.
use Rattle.std.specs.Prelude.{ℕ, ◌+◌, Bool, List, ◌∷◌, [], ◌++◌, codes, decimal, map, if◌then◌else◌}
use Rattle.text_model.specs.Marks.{Marker, Overlay}
use Rattle.editor_model.specs.Editor.{Editor, Live}
use Rattle.plain_machine.specs.State.{State, Process}
use Rattle.plain_machine.specs.Lines.{shown_marker, shown_overlay, shown_process, shown_set}
use Rattle.plain_machine.specs.Lines.{shown_status, shown_name}
use Rattle.trace_print.specs.Strings.{string_words}

abbrev pub marker_line : Editor → ℕ × Marker → List ℕ
marker_line e m = codes "marker " ++ (decimal m.0 ++ (32 ∷ (shown_marker e m.0 ++ 10 ∷ [])))

abbrev pub overlay_line : List (List ℕ) → Editor → ℕ × Overlay → List ℕ
overlay_line symbols e o = codes "overlay " ++
    (decimal o.0 ++ (32 ∷ (shown_overlay e o.0 ++ (32 ∷ (shown_set symbols o.1.props ++ 10 ∷ [])))))

abbrev pub process_line : State → ℕ × Process → List ℕ
process_line s p = codes "process " ++
    (decimal p.0 ++ (32 ∷ (shown_process s p.0 ++ (32 ∷ (shown_status p.1.status ++ 10 ∷ [])))))

-- the two lines of a live buffer, the current one or another
abbrev pub buffer_lines : List (List ℕ) → (current : Bool) → Live → List ℕ
buffer_lines symbols current l =
    codes "buffer " ++ (shown_name l.name ++
    (codes " point " ++ (decimal (l.buffer.point + 1) ++
    (codes " min " ++ (decimal (l.buffer.begin + 1) ++ (codes " max " ++ (decimal (l.buffer.end + 1) ++
    (codes " modified " ++ ((if l.buffer.modified then codes "t" else codes "nil") ++
    ((if l.read_only then codes " read-only" else []) ++
    ((if current then codes " current\ntext " else codes "\ntext ") ++
    (string_words symbols (map (λ c. c.0) l.buffer.text) (map (λ c. c.1) l.buffer.text) ++ 10 ∷ []))))))))))))
