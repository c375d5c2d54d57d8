use Rattle.std.proofs.Common.{◌≤◌, ◌&&◌, length, map, sym, ap, ◌∙◌, arith}
use Rattle.std.proofs.lemmas.List.{length-map}
use Rattle.plain_machine.specs.Natives.{was_made}
use Rattle.ek_types.specs.Listing.{items_of}
use Rattle.ek_call.specs.Meaning.{view}
use Rattle.handler_code.specs.Counts.{program_with, state_with}
use Rattle.handler_code.proofs.Passing.{seen_at, all_more, all_fails, all_passed}
use Rattle.handler_code.proofs.ValueShapes.{list_made, dot_made, buffer_made, marker_made, overlay_made, process_made}
use Rattle.handler_code.proofs.made.+made.Goals as goal

pub are_made-returns-then-not-is_made : goal.are_made-returns-then-not-is_made
are_made-returns-then-not-is_made t c = sym (all_fails (was_made (program_with c.args.made.now) (state_with c.args.made.now)) (map view (items_of c.args.values.now)) c.loop-i.i (view c.at.result.now) (seen_at view (items_of c.args.values.now) c.loop-i.i c.at.result.now c.at.ensures) c.loop-i.invariant (sym c.is_made.ensures ∙ c.if-not-is_made.true))

pub are_made-loop-i-preserved : goal.are_made-loop-i-preserved
are_made-loop-i-preserved t c = all_more (was_made (program_with c.args.made.now) (state_with c.args.made.now)) (map view (items_of c.args.values.now)) c.loop-i.i (view c.at.result.now) (seen_at view (items_of c.args.values.now) c.loop-i.i c.at.result.now c.at.ensures) c.loop-i.invariant (sym c.is_made.ensures ∙ c.if-not-is_made.false)

pub are_made-returns : goal.are_made-returns
are_made-returns t c =
    let end : length (map view (items_of c.args.values.now)) ≤ c.loop-i.i = omega (arith, length-map (items_of c.args.values.now) view, c.len-i-end.ensures, c.loop-i-test.false) in
    sym (all_passed (was_made (program_with c.args.made.now) (state_with c.args.made.now)) (map view (items_of c.args.values.now)) c.loop-i.i end c.loop-i.invariant)

pub is_made-returns-then-not-are_made : goal.is_made-returns-then-not-are_made
is_made-returns-then-not-are_made t c =
    sym (dot_made (program_with c.args.made.now) (state_with c.args.made.now) c.args.value.now c.in-Dot.items c.in-Dot.tail c.in-Dot.is ∙ ap (λ b. b && was_made (program_with c.args.made.now) (state_with c.args.made.now) (view c.in-Dot.tail.value)) (sym c.are_made-in-Dot.ensures ∙ c.if-not-are_made.true))

pub is_made-returns-in-List : goal.is_made-returns-in-List
is_made-returns-in-List t c = c.are_made.ensures ∙ sym (list_made (program_with c.args.made.now) (state_with c.args.made.now) c.args.value.now c.in-List.items c.in-List.is)

pub is_made-returns-else-not-are_made : goal.is_made-returns-else-not-are_made
is_made-returns-else-not-are_made t c =
    c.is_made.ensures ∙ ap (λ w. was_made (program_with c.args.made.now) (state_with c.args.made.now) (view w)) c.deref.ensures
    ∙ sym (dot_made (program_with c.args.made.now) (state_with c.args.made.now) c.args.value.now c.in-Dot.items c.in-Dot.tail c.in-Dot.is ∙ ap (λ b. b && was_made (program_with c.args.made.now) (state_with c.args.made.now) (view c.in-Dot.tail.value)) (sym c.are_made-in-Dot.ensures ∙ c.if-not-are_made.false))

pub is_made-returns-in-Buffer : goal.is_made-returns-in-Buffer
is_made-returns-in-Buffer t c = buffer_made c.args.made.now c.args.value.now c.in-Buffer.b c.in-Buffer.is

pub is_made-returns-in-Marker : goal.is_made-returns-in-Marker
is_made-returns-in-Marker t c = marker_made c.args.made.now c.args.value.now c.in-Marker.k c.in-Marker.is

pub is_made-returns-in-Overlay : goal.is_made-returns-in-Overlay
is_made-returns-in-Overlay t c = overlay_made c.args.made.now c.args.value.now c.in-Overlay.k c.in-Overlay.is

pub is_made-returns-in-Process : goal.is_made-returns-in-Process
is_made-returns-in-Process t c = process_made c.args.made.now c.args.value.now c.in-Process.p c.in-Process.is
