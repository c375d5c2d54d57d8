-- What the definitions compute for the drill, and for the words of the command line.
use Rattle.std.specs.Prelude.{◌≡◌, true, false, codes, Some, None, [], ◌∷◌}
use Rattle.std.specs.Fmt.{digits}
use Rattle.std.specs.Char.{encode_utf8}
use Rattle.std.proofs.Common.{refl}
use Rattle.plain_machine.specs.Drill.{is_run, drill_of}
use Rattle.worked_rows.specs.DrillRows.{Drills, exchanges_of, no_child}

pub drill_of_no_line : Drills 0 (exchanges_of 0) (codes "drill 0: 12 lines, 3 exchanges, 0 characters\n")
unfolding digits encode_utf8
drill_of_no_line = (refl, refl, refl)

pub drill_of_one_line : Drills 1 (exchanges_of 1) (codes "drill 1: 37 lines, 6 exchanges, 4 characters\n")
unfolding digits encode_utf8
drill_of_one_line = (refl, refl, refl)

pub drill_without_a_child : Drills 1 no_child (codes "drill 1: 9 lines, 1 exchanges, 0 characters\n")
unfolding digits encode_utf8
drill_without_a_child = (refl, refl, refl)

-- THE WORDS
pub words_of_run : (is_run (codes "run" ∷ []) ≡ true) × (is_run (codes "walk" ∷ []) ≡ false) × (is_run (codes "run" ∷ codes "x" ∷ []) ≡ false) × (is_run [] ≡ false)
words_of_run = (refl, refl, refl, refl)

pub words_of_drill : (drill_of (codes "drill" ∷ codes "0042" ∷ []) ≡ Some 42) × (drill_of (codes "drill" ∷ codes "12345" ∷ []) ≡ None) × (drill_of (codes "drill" ∷ []) ≡ None) × (drill_of (codes "drill" ∷ codes "-1" ∷ []) ≡ None) × (drill_of (codes "drill" ∷ codes "" ∷ []) ≡ None) × (drill_of (codes "run" ∷ codes "1" ∷ []) ≡ None)
words_of_drill = (refl, refl, refl, refl, refl, refl)
