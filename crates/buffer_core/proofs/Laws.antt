-- What the laws of undo ask of a buffer.
use Rattle.std.proofs.Common.{◌≡◌, length, refl, ◌∙◌, arith}
use Rattle.std.specs.Prelude.{Result, Ok, Err, OnOk}
use Rattle.ek_types.proofs.Pieces.{length-zip}
use Rattle.text_model.specs.Commit.{Buffer}
use Rattle.machine_laws.specs.Boundaries.{KeepsBoundaries}
use Rattle.machine_laws.specs.Good.{Good}
use Rattle.text_pool.specs.Pool.{Pooled}
use Rattle.gap_text.specs.Text.{LiesIn, characters}
use Rattle.buffer_core.specs.Meaning.{Stored, IsStored, buffer_of}
use Rattle.buffer_core.proofs.Sizes.{text_size}

pub on_ok : {T E P Q : Type 0} (r : Result T E) → (P → Q) → OnOk r P → OnOk r Q
on_ok (Ok x) f h = f h
on_ok (Err e) f h = tt

-- what nothing was done to
pub keeps_itself : (b : Buffer) → Good b → KeepsBoundaries b b
keeps_itself b good = record { good = good; same_text = λ serial before after. refl }

pub whole_text : (pool : Pooled) (b : Stored) → LiesIn pool b.text → IsStored b → length (buffer_of pool b).text ≡ length b.sets
whole_text pool b lies stored =
    let same : length (characters pool b.text) ≡ length b.sets = text_size pool b.text b.sets lies stored.size in
    length-zip (characters pool b.text) b.sets (omega (arith, same)) ∙ same
