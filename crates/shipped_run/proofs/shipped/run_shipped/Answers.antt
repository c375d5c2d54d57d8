use Rattle.std.proofs.Common.{refl}
use Rattle.std.specs.Prelude.{codes}
use Rattle.plain_machine.specs.Shipped.{insert_filter, drop_filter, note_sentinel}
use denote.Param.Object.{read_made}
use Rattle.shipped_run.proofs.shipped.run_shipped.OwnLists.{own-1, at-1-1, at-1-2, at-1-3}
use Rattle.shipped_run.proofs.Boxes.{mapped}
use Rattle.shipped_run.proofs.shipped.run_shipped.Goals as goal

pub run_list-requires-clause-names : goal.run_list-requires-clause-names
run_list-requires-clause-names g c =
    mapped _ c.into_dyn_box.result c.into_dyn_box-in_ok-new-2.result c.into_dyn_box-in_ok-new-3.result (codes "insert-filter") (codes "drop-filter") (codes "note-sentinel")
    c.in_ok-list.list.items c.push.new.self.items c.push-2.new.self.items c.push-3.new.self.items c.in_ok-list.ensures.items c.in_ok-push.ensures.items c.in_ok-push-2.ensures.items c.in_ok-push-3.ensures.items
    (read_made own-1 (own-1.entry at-1-1) at-1-1 refl _ (λ j y. j.1.called y) _ _ _ c.into_dyn_box.ensures.1) (read_made own-1 (own-1.entry at-1-2) at-1-2 refl _ (λ j y. j.1.called y) _ _ _ c.into_dyn_box-in_ok-new-2.ensures.1) (read_made own-1 (own-1.entry at-1-3) at-1-3 refl _ (λ j y. j.1.called y) _ _ _ c.into_dyn_box-in_ok-new-3.ensures.1)

pub run_list-requires-clause-does : goal.run_list-requires-clause-does
run_list-requires-clause-does g c = λ args past.
    mapped _ c.into_dyn_box.result c.into_dyn_box-in_ok-new-2.result c.into_dyn_box-in_ok-new-3.result (insert_filter args past) (drop_filter args past) (note_sentinel args past)
    c.in_ok-list.list.items c.push.new.self.items c.push-2.new.self.items c.push-3.new.self.items c.in_ok-list.ensures.items c.in_ok-push.ensures.items c.in_ok-push-2.ensures.items c.in_ok-push-3.ensures.items
    (read_made own-1 (own-1.entry at-1-1) at-1-1 refl _ (λ j y. j.1.does y args past) _ _ _ c.into_dyn_box.ensures.1) (read_made own-1 (own-1.entry at-1-2) at-1-2 refl _ (λ j y. j.1.does y args past) _ _ _ c.into_dyn_box-in_ok-new-2.ensures.1) (read_made own-1 (own-1.entry at-1-3) at-1-3 refl _ (λ j y. j.1.does y args past) _ _ _ c.into_dyn_box-in_ok-new-3.ensures.1)
