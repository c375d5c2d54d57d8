use Rattle.std.proofs.Common.{◌≡◌, ℕ, ◌<◌, ◌+◌, ◌++◌, ◌∷◌, [], Some, length, map, refl, ap, sym, ◌∙◌, arith}
use Rattle.std.proofs.lemmas.List.{length-append, map-append}
use Rattle.text_model.specs.Marks.{Overlay}
use Rattle.overlay_set.specs.Numbered.{span_at}
use Rattle.overlay_set.specs.Slots.{bare_of, bare}
use Rattle.overlay_set.specs.Entries.{entries_from, HoldSame}
use Rattle.overlay_set.specs.declared.slot.Slot.{Slot}
use Rattle.overlay_set.proofs.SeenLemmas.{bare-view, length-view, held-view, seen_is, held}
use Rattle.overlay_set.proofs.SlotLemmas.{made}
use Rattle.overlay_set.proofs.overlays.Overlays.make.Goals as goal

pub invariant_of-self-2 : goal.invariant_of-self-2
invariant_of-self-2 c =
    let items = c.self.inside.slots.items in
    let os = c.args.self.now in
    let stretch : ℕ × ℕ × ℕ = (c.args.buffer, c.args.from, c.args.to) in
    let slot : Slot = record { key = c.key_for-key.result; front = c.args.front; rear = c.args.rear; props = c.empty.result } in
    let o : Overlay = record { span = Some (span_at stretch); front_advance = c.args.front; rear_advance = c.args.rear; props = [] } in
    let long : length os ≡ length items = length-view c.self.inside.tree c.self.inside.slots.items c.args.self.now c.self.view_is in
    let count : c.len-number.result ≡ length os = omega (arith, c.len-number.ensures, c.self.inside.slots.ok.0, long) in
    let pushed : c.push_reserved.new.self.items ≡ items ++ slot ∷ [] = c.push_reserved.ensures.items ∙ ap (λ xs. xs ++ slot ∷ []) c.reserve.ensures.items in
    let own : bare_of slot ≡ bare o = ap (λ ps. bare (record { span = Some (span_at stretch); front_advance = c.args.front; rear_advance = c.args.rear; props = ps })) c.empty.ensures in
    let rest : map bare_of (items ++ slot ∷ []) ≡ map bare (os ++ o ∷ []) =
    map-append bare_of items (slot ∷ []) ∙ ap (λ xs. xs ++ bare_of slot ∷ []) (bare-view c.self.inside.tree c.self.inside.slots.items c.args.self.now c.self.view_is) ∙ ap (λ p. map bare os ++ p ∷ []) own ∙ sym (map-append bare os (o ∷ [])) in
    let holds : HoldSame c.put.new.tree (entries_from 0 (os ++ o ∷ [])) = made os c.self.inside.tree c.put.new.tree c.len-number.result o stretch count refl (rw c.in_ok-node.ensures at c.put.ensures) (held-view c.self.inside.tree c.self.inside.slots.items c.args.self.now c.self.view_is c.self.invariant.1) in
    let room : length items + 1 < 4294967296 = omega (arith, c.requires.room, long) in
    rw pushed (
      omega (arith, room, length-append items (slot ∷ [])),
      held (items ++ slot ∷ []) c.put.new.tree (os ++ o ∷ []) holds rest,
    )

pub returns-clause-ok : goal.returns-clause-ok
returns-clause-ok c =
    let items = c.self.inside.slots.items in
    let os = c.args.self.now in
    let stretch : ℕ × ℕ × ℕ = (c.args.buffer, c.args.from, c.args.to) in
    let slot : Slot = record { key = c.key_for-key.result; front = c.args.front; rear = c.args.rear; props = c.empty.result } in
    let o : Overlay = record { span = Some (span_at stretch); front_advance = c.args.front; rear_advance = c.args.rear; props = [] } in
    let long : length os ≡ length items = length-view c.self.inside.tree c.self.inside.slots.items c.args.self.now c.self.view_is in
    let count : c.len-number.result ≡ length os = omega (arith, c.len-number.ensures, c.self.inside.slots.ok.0, long) in
    let pushed : c.push_reserved.new.self.items ≡ items ++ slot ∷ [] = c.push_reserved.ensures.items ∙ ap (λ xs. xs ++ slot ∷ []) c.reserve.ensures.items in
    let own : bare_of slot ≡ bare o = ap (λ ps. bare (record { span = Some (span_at stretch); front_advance = c.args.front; rear_advance = c.args.rear; props = ps })) c.empty.ensures in
    let rest : map bare_of (items ++ slot ∷ []) ≡ map bare (os ++ o ∷ []) =
    map-append bare_of items (slot ∷ []) ∙ ap (λ xs. xs ++ bare_of slot ∷ []) (bare-view c.self.inside.tree c.self.inside.slots.items c.args.self.now c.self.view_is) ∙ ap (λ p. map bare os ++ p ∷ []) own ∙ sym (map-append bare os (o ∷ [])) in
    let holds : HoldSame c.put.new.tree (entries_from 0 (os ++ o ∷ [])) = made os c.self.inside.tree c.put.new.tree c.len-number.result o stretch count refl (rw c.in_ok-node.ensures at c.put.ensures) (held-view c.self.inside.tree c.self.inside.slots.items c.args.self.now c.self.view_is c.self.invariant.1) in
    rw pushed (seen_is (items ++ slot ∷ []) c.put.new.tree (os ++ o ∷ []) holds rest)

pub returns-clause-number : goal.returns-clause-number
returns-clause-number c = omega (arith, c.len-number.ensures, c.self.inside.slots.ok.0, length-view c.self.inside.tree c.self.inside.slots.items c.args.self.now c.self.view_is)
