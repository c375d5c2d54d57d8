use Rattle.std.proofs.Common.{◌+◌, ◌*◌, ◌/◌, ap, ◌∙◌, sym, subst}
use Rattle.gap_text.specs.Blocks.{IsRow, Absent}
use Rattle.gap_text.specs.Growth.{Grown, Inserted}
use Rattle.gap_text.specs.Text.{Gapped, characters, LiesIn}
use Rattle.gap_text.proofs.Texts.{numbers, made, Moved}
use Rattle.gap_text.proofs.Elsewhere.{SameText, same_characters, same_slots, text_at_same_slots, text_grown}
use Rattle.gap_text.proofs.text.Text.reserve.Goals as goal

pub returns-in_err-make_room-clause-lies : goal.returns-in_err-make_room-clause-lies
returns-in_err-make_room-clause-lies c =
    let n = numbers c.args.pool.now c.args.self.now (made c.self.inside.blocks.items c.self.inside.gap c.self.inside.spare) c.self.view_is c.requires c.self.invariant in
    subst (λ b. LiesIn c.make_room.new.pool (made b c.self.inside.gap c.self.inside.spare)) (sym c.make_room.ensures.items)
    (text_at_same_slots c.args.pool.now c.make_room.new.pool (made c.self.inside.blocks.items c.self.inside.gap c.self.inside.spare) c.make_room.ensures.slots n.lies).lies

pub move_gap-requires-clause-row : goal.move_gap-requires-clause-row
move_gap-requires-clause-row c =
    let n = numbers c.args.pool.now c.args.self.now (made c.self.inside.blocks.items c.self.inside.gap c.self.inside.spare) c.self.view_is c.requires c.self.invariant in
    let t = text_at_same_slots c.args.pool.now c.make_room.new.pool (made c.self.inside.blocks.items c.self.inside.gap c.self.inside.spare) c.make_room.ensures.slots n.lies in
    subst (IsRow c.make_room.new.pool) (sym (c.as_slice.ensures.value ∙ c.make_room.ensures.items))
    (record { live = t.lies.blocks; distinct = c.self.invariant.distinct; countable = c.self.invariant.countable })

after : (c : goal.After-self-2-1) → SameText c.args.pool.now c.insert_blocks.new.pool (made c.self.inside.blocks.items c.self.inside.gap c.self.inside.spare)
    (made c.insert_blocks.new.blocks.items (c.self.inside.gap / 256 * 256) (c.self.inside.spare + c.in_ok-more.more * 256))
after c =
    let t : Gapped = made c.self.inside.blocks.items c.self.inside.gap c.self.inside.spare in
    let n = numbers c.args.pool.now c.args.self.now t c.self.view_is c.requires c.self.invariant in
    let m : Moved c.make_room.new.pool c.move_gap.new.pool c.self.inside.blocks.items c.self.inside.gap c.self.inside.spare (c.self.inside.gap / 256 * 256) =
    subst (λ b. Moved c.make_room.new.pool c.move_gap.new.pool b c.self.inside.gap c.self.inside.spare (c.self.inside.gap / 256 * 256)) (c.as_slice.ensures.value ∙ c.make_room.ensures.items)
    (record { kept = c.move_gap.ensures.kept; row = c.move_gap.ensures.row }) in
    let g : Grown c.move_gap.new.pool c.insert_blocks.new.pool c.self.inside.blocks.items c.insert_blocks.new.blocks.items c.in_ok-more.more =
    subst (λ b. Grown c.move_gap.new.pool c.insert_blocks.new.pool b c.insert_blocks.new.blocks.items c.in_ok-more.more) c.make_room.ensures.items c.insert_blocks.ensures.grown in
    let i : Inserted c.self.inside.blocks.items c.insert_blocks.new.blocks.items (c.self.inside.gap / 256) c.in_ok-more.more =
    subst (λ b. Inserted b c.insert_blocks.new.blocks.items (c.self.inside.gap / 256) c.in_ok-more.more) c.make_room.ensures.items c.insert_blocks.ensures.inserted in
    text_grown c.args.pool.now c.make_room.new.pool c.move_gap.new.pool c.insert_blocks.new.pool t c.insert_blocks.new.blocks.items c.in_ok-more.more n.lies c.make_room.ensures.slots m g i

pub returns-clause-lies : goal.returns-clause-lies
returns-clause-lies c = (after c).lies

pub returns-clause-characters : goal.returns-clause-characters
returns-clause-characters c =
    same_characters c.args.pool.now c.insert_blocks.new.pool (made c.self.inside.blocks.items c.self.inside.gap c.self.inside.spare)
    (made c.insert_blocks.new.blocks.items (c.self.inside.gap / 256 * 256) (c.self.inside.spare + c.in_ok-more.more * 256)) (after c)
    ∙ ap (λ (t : Gapped). characters c.args.pool.now t) c.self.view_is

pub returns-clause-others : goal.returns-clause-others
returns-clause-others c number a =
    c.insert_blocks.ensures.grown.outside number a
    ∙ c.move_gap.ensures.pool.others number (subst (Absent number) (sym c.as_slice.ensures.value) (c.insert_blocks.ensures.grown.kept number a))
    ∙ same_slots c.args.pool.now c.make_room.new.pool c.make_room.ensures.slots number tt
