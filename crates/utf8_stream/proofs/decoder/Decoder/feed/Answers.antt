use Rattle.std.proofs.Common.{◌≡◌, ◌+◌, ◌-◌, ◌<◌, ◌≤◌, ◌++◌, [], ◌∷◌, ◌∙◌, ap, sym, length, take, drop, slice_index, append_assoc, length-append, arith}
use Rattle.std.proofs.lemmas.Bool.Decides.{nat_tests}
use Rattle.text_model.specs.Codings.{decoded, undecoded}
use Rattle.utf8_stream.specs.Codings.{Held}
use Rattle.utf8_stream.proofs.Steps.{cut_length, one_more, one_more_tail, put_none}
use Rattle.utf8_stream.proofs.Returns.{decoded_room, none_more}
use Rattle.utf8_stream.proofs.decoder.Decoder.feed.Goals.{then-loop-self-test+else-not-is_empty, else-loop-self-test}
use Rattle.utf8_stream.proofs.decoder.Decoder.feed.Goals as goal

pub loop-self-preserved : goal.loop-self-preserved
loop-self-preserved c =
    let h = c.loop-self.self in
    let k = h.coding in
    let x = c.loop-self.rest.now in
    let some : 0 < length x = grind (arith, nat_tests) in
    let z = h.bytes ++ slice_index x 0 ∷ [] in
    let y = take (length x - 1) (drop 1 x) in
    let new = c.feed_one.new.self in
    let held : new ≡ record h { bytes = undecoded k z } = c.feed_one.ensures.held in
    let behind = decoded k (undecoded k z ++ y) in
    let same : decoded new.coding (new.bytes ++ y) ≡ behind = ap (λ (d : Held). decoded d.coding (d.bytes ++ y)) held in
    let split : decoded k (h.bytes ++ x) ≡ decoded k z ++ behind = one_more k h.bytes x some in
    let count : length (decoded k (h.bytes ++ x)) ≡ length (decoded k z) + length behind = ap length split ∙ length-append (decoded k z) behind in
    let shorter : length y ≡ length x - 1 = cut_length 1 x in
    let room : length (decoded k z) + length (undecoded k z) ≤ length h.bytes + 1 = omega (arith, decoded_room k z, length-append h.bytes (slice_index x 0 ∷ [])) in
    let holds : length new.bytes ≡ length (undecoded k z) = ap (λ (d : Held). length d.bytes) held in
    record {
      coding = ap (λ (d : Held). d.coding) held ∙ c.loop-self.invariant.coding;
      items = ap (λ cs. c.feed_one.new.out.items ++ cs) same
          ∙ ap (λ cs. cs ++ behind) c.feed_one.ensures.items
          ∙ append_assoc c.loop-self.out.items (decoded k z) behind
          ∙ ap (λ cs. c.loop-self.out.items ++ cs) (sym split) ∙ c.loop-self.invariant.items;
      spare = omega (arith, count, ap length same, c.feed_one.ensures.spare);
      room = omega (arith, shorter, room, holds, c.feed_one.ensures.spare);
      tail = ap (λ (d : Held). undecoded d.coding (d.bytes ++ y)) held ∙ sym (one_more_tail k h.bytes x some) ∙ c.loop-self.invariant.tail;
    }

pub returns-else-is_empty-clause-items : goal.returns-else-is_empty-clause-items
returns-else-is_empty-clause-items c =
    let same : length c.held.result.now ≡ length c.held-2.result.now = ap length (c.held.ensures.held ∙ sym c.held-2.ensures.held) in
    let none : length c.loop-self.rest.now ≡ 0 = elim c.loop-self-test.branch [
      | then-loop-self-test+else-not-is_empty w ↦ grind (arith, nat_tests)
      | else-loop-self-test w ↦ grind (arith, nat_tests)
    ] in
    put_none c.loop-self.out.items (decoded c.loop-self.self.coding (c.loop-self.self.bytes ++ c.loop-self.rest.now)) _ c.loop-self.invariant.items (none_more c.loop-self.self.coding c.loop-self.self.bytes c.loop-self.rest.now none c.held.ensures.tail)

pub returns-else-is_empty-clause-spare : goal.returns-else-is_empty-clause-spare
returns-else-is_empty-clause-spare c =
    let same : length c.held.result.now ≡ length c.held-2.result.now = ap length (c.held.ensures.held ∙ sym c.held-2.ensures.held) in
    let none : length c.loop-self.rest.now ≡ 0 = elim c.loop-self-test.branch [
      | then-loop-self-test+else-not-is_empty w ↦ grind (arith, nat_tests)
      | else-loop-self-test w ↦ grind (arith, nat_tests)
    ] in
    omega (arith, ap length (none_more c.loop-self.self.coding c.loop-self.self.bytes c.loop-self.rest.now none c.held.ensures.tail))
