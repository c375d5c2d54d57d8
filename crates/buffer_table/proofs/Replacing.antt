-- A change of a text leaves the marks of other buffers within theirs.
use Rattle.std.proofs.Common.{◌≡◌, ◌≢◌, ℕ, Bool, List, [], ◌∷◌, length, Result, Ok, Err, subst, sym, ap}
use Rattle.std.specs.Prelude.{OnOk, OnErr, ◌==◌}
use Rattle.text_model.specs.Properties.{Cell}
use Rattle.text_model.specs.Marks.{Marks, insertion}
use Rattle.text_model.specs.Commit.{Site, replaced, no_pending, deleted}
use Rattle.text_model.proofs.Cases.{by_test}
use Rattle.text_pool.specs.Pool.{Pooled}
use Rattle.gap_text.specs.Text.{LiesIn}
use Rattle.buffer_core.specs.Blocks.{ChangesBlocks}
use Rattle.buffer_core.specs.Meaning.{Stored, site_of}
use Rattle.buffer_core.specs.Standing.{AreWithin}
use Rattle.buffer_core.proofs.StandingLemmas.{moved_elsewhere, deleted_elsewhere}
use Rattle.buffer_table.specs.Standing.{StandIn}
use Rattle.buffer_table.proofs.StandLemmas.{stand_moved, stand_deleted}
use Rattle.buffer_table.proofs.KeptLemmas.{Changes}

replaced_elsewhere : (id from to : ℕ) (piece : List Cell) (all : Bool) (s : Site) (other size : ℕ) → other ≢ id → AreWithin other size s.marks → AreWithin other size (replaced id from to piece all s).marks
replaced_elsewhere id from to [] all s other size apart w =
    by_test (λ (t : Site). AreWithin other size t.marks) (from == to) s (no_pending (deleted id from to s)) (λ _. w) (λ _. deleted_elsewhere id other from to size s.marks apart w)
replaced_elsewhere id from to (c ∷ piece) all s other size apart w = moved_elsewhere id other size all (insertion from (length (c ∷ piece))) s.marks apart w

replaced_stand : (among : ℕ → Bool) (id from to : ℕ) (piece : List Cell) (all : Bool) (s : Site) → StandIn among s.marks → StandIn among (replaced id from to piece all s).marks
replaced_stand among id from to [] all s w =
    by_test (λ (t : Site). StandIn among t.marks) (from == to) s (no_pending (deleted id from to s)) (λ _. w) (λ _. stand_deleted among id from to s.marks w)
replaced_stand among id from to (c ∷ piece) all s w = stand_moved among id all (insertion from (length (c ∷ piece))) s.marks w

-- by the clauses of `Buffer::replace`
pub replace_changes : {T E : Type 0} (r : Result T E) (id from to : ℕ) (piece : List Cell) (all : Bool) (before after : Stored) (marks moved : Marks) (old new : Pooled)
    → LiesIn new after.text → ChangesBlocks before.text.blocks after.text.blocks old new → AreWithin id (length after.sets) moved
    → OnOk r (site_of new after moved ≡ replaced id from to piece all (site_of old before marks)) → OnErr r (site_of new after moved ≡ site_of old before marks)
    → Changes id before after marks moved old new
replace_changes (Ok x) id from to piece all before after marks moved old new lies blocks here ok err =
    record {
      lies = lies;
      blocks = blocks;
      here = here;
      stand = λ among w. subst (StandIn among) (sym (ap (λ (s : Site). s.marks) ok)) (replaced_stand among id from to piece all (site_of old before marks) w);
      elsewhere = λ other size apart w. subst (AreWithin other size) (sym (ap (λ (s : Site). s.marks) ok)) (replaced_elsewhere id from to piece all (site_of old before marks) other size apart w);
    }
replace_changes (Err x) id from to piece all before after marks moved old new lies blocks here ok err =
    record {
      lies = lies;
      blocks = blocks;
      here = here;
      stand = λ among w. subst (StandIn among) (sym (ap (λ (s : Site). s.marks) err)) w;
      elsewhere = λ other size apart w. subst (AreWithin other size) (sym (ap (λ (s : Site). s.marks) err)) w;
    }
