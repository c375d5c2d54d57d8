use Rattle.std.proofs.Common.{rules, ◌≡◌, ◌≤◌, length, ◌+◌, ◌-◌, true, false, arith, sym, subst}
use Rattle.std.proofs.lemmas.Grind.{common_steps}
use Rattle.std.specs.Bool.{if◌then◌else◌}
use Rattle.ek_types.proofs.Failing.{none_fails_now, none_fails_later, within_room, room_left}
use Rattle.ek_types.specs.MemoryIo.{MemorySinkState, fails_at, fails_no_more}
use Rattle.ek_types.proofs.memory_io.MemorySinkSink.write.Goals as goal

pub returns-then-is_among-clause-roomy : goal.returns-then-is_among-clause-roomy
returns-then-is_among-clause-roomy c = λ h.
    let sure = within_room (fails_no_more c.args.self.now.fails c.args.self.now.calls) (length c.args.from.now) (c.args.self.now.limit - length c.args.self.now.held) c.requires h in
    let fails : fails_at c.args.self.now.fails c.args.self.now.calls ≡ true = search rules in
    let none : fails_at c.args.self.now.fails c.args.self.now.calls ≡ false = none_fails_now c.args.self.now.fails c.args.self.now.calls sure.0 in
    cc

pub returns-clause-roomy : goal.returns-clause-roomy
returns-clause-roomy c = λ h.
    let sure = within_room (fails_no_more c.args.self.now.fails c.args.self.now.calls) (length c.args.from.now) (c.args.self.now.limit - length c.args.self.now.held) c.requires h in
    let P : MemorySinkState → Type 0 = λ s. fails_no_more s.fails s.calls ≡ true in
    let still = none_fails_later c.self.inside.fails.items c.self.inside.calls c.saturating_add-self-inside.result (grind arith) (subst P (sym c.self.view_is) sure.0) in
    record {
      answers = λ e. cc;
      faults = search rules;
      room = let Q : MemorySinkState → Type 0 = λ s. (if fails_no_more s.fails s.calls then s.limit - length s.held else 0) ≤ (if fails_no_more c.self.inside.fails.items c.saturating_add-self-inside.result then c.self.inside.room - length c.extend_from_slice.new.self.items else 0) + c.min-n.result in
          subst Q c.self.view_is (room_left (fails_no_more c.self.inside.fails.items c.self.inside.calls) (fails_no_more c.self.inside.fails.items c.saturating_add-self-inside.result) c.self.inside.room (length c.self.inside.bytes.items) (length c.extend_from_slice.new.self.items) c.min-n.result still (grind (arith, common_steps)));
    }
