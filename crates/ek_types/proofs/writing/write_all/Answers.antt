use Rattle.std.proofs.Common.{take, arith, refl, ◌∙◌}
use Rattle.std.proofs.KnownBytes.{Appends-trans}
use Rattle.std.proofs.lemmas.List.{take_rest}
use Rattle.std.proofs.lemmas.Grind.{common_steps}
use Rattle.std.proofs.Math.Seq.{take-add}
use Rattle.ek_types.proofs.Printing.{take_is_prefix, Appends-kept}
use Rattle.ek_types.proofs.writing.write_all.Goals as goal

pub loop-at-preserved : goal.loop-at-preserved
loop-at-preserved g c = record {
  within = grind (arith, common_steps, c.in-Bytes.ensures.bytes.1);
  written = let h = Appends-trans _ _ _ _ _ c.loop-at.invariant.written c.in-Bytes.ensures.bytes.2 in
      rw take-add (rw take_rest at h);
  later = omega (arith, c.write.ensures.cause.later);
  faults = λ h.
      let kept = c.loop-at.invariant.room h in
      (c.in-Bytes.ensures.roomy (grind (arith, common_steps))).faults ∙ c.loop-at.invariant.faults h;
  room = λ h.
      let kept = c.loop-at.invariant.room h in
      let more = (c.in-Bytes.ensures.roomy (grind (arith, common_steps))).room in
      omega arith;
}

pub returns-in-Failed : goal.returns-in-Failed
returns-in-Failed g c = record {
  ok = tt;
  err = (take c.loop-at.at c.args.bytes.now, take_is_prefix c.loop-at.at c.args.bytes.now, Appends-kept _ _ _ _ c.loop-at.invariant.written c.in-Failed.ensures.bytes);
  later = omega (arith, c.write.ensures.cause.later);
  rose = omega (arith, c.in-Failed.ensures.cause.rose refl);
  roomy = λ h.
      let kept = c.loop-at.invariant.room h in
      absurd ((c.in-Failed.ensures.roomy (grind (arith, common_steps))).answers refl);
}
