-- One question to a child: whom it is to, and what becomes of the table.
use Rattle.std.proofs.Common.{◌≡◌, ℕ, List, ◌++◌, refl, ap, sym, ◌∙◌, inl, inr, slice_get}
use Rattle.std.specs.Prelude.{Some, None}
use Rattle.std.specs.declared.option.Option.{Option}
use Rattle.std.proofs.lemmas.Bool.{false≢true}
use Rattle.text_model.specs.Codings.{undecoded}
use Rattle.plain_machine.specs.State.{Process, Exited, Signalled, Lost}
use Rattle.plain_machine.specs.Arguments.{child_of}
use Rattle.process_table.specs.Table.{with_table, held_by, with_held, with_drained, with_status, coding_by}
use Rattle.host_link.specs.declared.host.Got.{Got}
use Rattle.host_link.specs.declared.host.Got.TheVariants as got
use Rattle.host_link.specs.declared.host.Ended.{Ended}
use Rattle.host_link.specs.declared.host.Ended.TheVariants as ended
use Rattle.handler_run.specs.Answers.{after_read, after_end}
use Rattle.handler_run.specs.Asking.{TouchesIf}

pub child_is : (table : List Process) (p : ℕ) (x : Process) (child : ℕ) → slice_get table p ≡ Some x → child ≡ x.child → child_of (with_table table) p ≡ child
child_is table p x child found is = ap (λ (o : Option Process). let k : ℕ = elim o [ Some y ↦ y.child | None ↦ 0 ] in k) found ∙ sym is

pub touches_read : (p : ℕ) (g : Got) (bytes : List ℕ) (old new : List Process) → new ≡ after_read p g bytes old → TouchesIf p old new
touches_read p (got.Bytes n) bytes old new e = inr (record { change = with_held (undecoded (coding_by old p) (held_by old p ++ bytes)); same = e; child = λ x. refl; ends = λ x r. r })
touches_read p got.Nothing bytes old new e = inl e
touches_read p got.End bytes old new e = inr (record { change = with_drained; same = e; child = λ x. refl; ends = λ x r. r })
touches_read p got.Failed bytes old new e = inr (record { change = with_drained; same = e; child = λ x. refl; ends = λ x r. r })

pub touches_end : (p : ℕ) (how : Ended) (old new : List Process) → new ≡ after_end p how old → TouchesIf p old new
touches_end p (ended.Code n) old new e = inr (record { change = with_status (Exited n); same = e; child = λ x. refl; ends = λ x r. absurd (false≢true r) })
touches_end p ended.Signal old new e = inr (record { change = with_status Signalled; same = e; child = λ x. refl; ends = λ x r. absurd (false≢true r) })
touches_end p ended.Failed old new e = inr (record { change = with_status Lost; same = e; child = λ x. refl; ends = λ x r. absurd (false≢true r) })
touches_end p ended.Running old new e = inl e
