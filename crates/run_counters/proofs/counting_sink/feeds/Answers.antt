use Rattle.std.proofs.Common.{◌≡◌, ℕ, ◌+◌, ◌==◌, List, length, take, drop, take-append-drop, length-append, ap, sym, ◌∙◌, arith}
use Rattle.std.specs.Prelude.{filter}
use Rattle.std.proofs.lemmas.List.Elements.{filter-append}
use Rattle.plain_machine.specs.Grammar.{line_feeds}
use Rattle.run_counters.proofs.counting_sink.feeds.Goals as goal

-- those of a front and those of what is behind it
parted : (n : ℕ) (bytes : List ℕ) → line_feeds bytes ≡ line_feeds (take n bytes) + line_feeds (drop n bytes)
parted n bytes =
    ap line_feeds (sym (take-append-drop n bytes)) ∙ ap length (filter-append (λ c. c == 10) (take n bytes) (drop n bytes)) ∙ length-append (filter (λ c. c == 10) (take n bytes)) (filter (λ c. c == 10) (drop n bytes))

pub loop-left-preserved : goal.loop-left-preserved
loop-left-preserved c =
    let front : line_feeds c.split_at.result.0.now ≡ line_feeds (take 240 c.loop-left.left.now) = ap line_feeds c.split_at.ensures.front in
    let back : line_feeds c.split_at.result.1.now ≡ line_feeds (drop 240 c.loop-left.left.now) = ap line_feeds c.split_at.ensures.back in
    let short : length c.split_at.result.1.now ≡ length (drop 240 c.loop-left.left.now) = ap length c.split_at.ensures.back in
    let first : length c.split_at.result.0.now ≡ length (take 240 c.loop-left.left.now) = ap length c.split_at.ensures.front in
    let whole = ap length (take-append-drop 240 c.loop-left.left.now) in
    record {
      exact = omega (arith, parted 240 c.loop-left.left.now);
      few = omega (arith, whole, length-append (take 240 c.loop-left.left.now) (drop 240 c.loop-left.left.now));
    }
