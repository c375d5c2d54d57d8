use Rattle.std.proofs.Common.{[], ◌∷◌, ◌++◌, vec_len, vec_capacity, ap, sym, ◌∙◌, arith}
use Rattle.std.specs.List.{range_with_len}
use Rattle.plain_machine.specs.Waits.{is_eligible}
use Rattle.process_table.specs.Table.{with_table}
use Rattle.wait_loop.specs.Aims.{waiting_for}
use Rattle.wait_loop.proofs.EligibleLemmas.{others, others_of_round, one_more_passes, none_more_fails, none_more_first}
use Rattle.wait_loop.proofs.aims.Aim.list_others.Goals as goal
use Rattle.wait_loop.proofs.aims.Aim.list_others.Goals.{then-p-first+then-may_ask, else-p-first, else-p-first-via-then-p-first+else-may_ask, else-p-first-via-else-p-first}

pub loop-p-preserved : goal.loop-p-preserved
loop-p-preserved c =
    let test = is_eligible (with_table c.args.table.now) (waiting_for c.args.self) in
    elim c.if-p-first.branch [
      | then-p-first+then-may_ask w ↦ record {
        end = c.loop-p.invariant.end;
        room = ap vec_capacity w.asking-is ∙ w.push_reserved.ensures.capacity ∙ c.loop-p.invariant.room;
        few = omega (arith, ap vec_len w.asking-is, w.push_reserved.ensures.len, c.loop-p.invariant.few);
        listed = ap (λ v. v.items) w.asking-is ∙ w.push_reserved.ensures.items ∙ ap (λ xs. xs ++ c.loop-p.p ∷ []) c.loop-p.invariant.listed ∙ one_more_passes test c.args.first c.loop-p.p w.if-p-first.true (sym w.may_ask.ensures ∙ w.if-may_ask.true);
      }
      | else-p-first w ↦ record {
        end = c.loop-p.invariant.end;
        room = ap vec_capacity w.asking-is ∙ c.loop-p.invariant.room;
        few = omega (arith, ap vec_len w.asking-is, c.loop-p.invariant.few);
        listed = ap (λ v. v.items) w.asking-is ∙ c.loop-p.invariant.listed ∙ (elim w.else-p-first.branch [
          | else-p-first-via-then-p-first+else-may_ask v ↦ none_more_fails test c.args.first c.loop-p.p (sym v.may_ask.ensures ∙ v.if-may_ask.false)
          | else-p-first-via-else-p-first v ↦ none_more_first test c.args.first c.loop-p.p v.if-p-first.false
        ]);
      }
    ]

pub returns-clause-items : goal.returns-clause-items
returns-clause-items c =
    c.loop-p.invariant.listed
    ∙ ap (λ n. others (is_eligible (with_table c.args.table.now) (waiting_for c.args.self)) c.args.first (range_with_len 0 n)) (omega (arith, c.loop-p.invariant.end, c.loop-p.auto.p-end, c.loop-p-test.false))
    ∙ others_of_round (with_table c.args.table.now) (waiting_for c.args.self) c.args.first c.requires.first
