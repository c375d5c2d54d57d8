use Rattle.std.proofs.Common.{◌≡◌, ◌-◌, length, drop, [], arith, append-nil}
use Rattle.std.proofs.lemmas.List.{drop_all, length-drop, take_rest}
use Rattle.gap_text.proofs.Growing.{turned}
use Rattle.gap_text.proofs.growth.bring_last.Goals as goal

pub returns : goal.returns
returns c =
    let xs = c.args.blocks.now in
    let n : length (drop c.args.at xs) ≡ length xs - c.args.at = length-drop c.args.at xs in
    let e : drop (length xs - c.args.at) (drop c.args.at xs) ≡ [] = drop_all (length xs - c.args.at) (drop c.args.at xs) (omega arith) in
    rw (e, c.rotate_right.ensures.after, take_rest xs c.args.at, n, append-nil) (turned xs c.args.at c.args.more c.requires)
