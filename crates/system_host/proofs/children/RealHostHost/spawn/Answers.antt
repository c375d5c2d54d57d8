use Rattle.std.proofs.Common.{[], ◌∷◌, ◌++◌, refl, ap, ◌∙◌}
use Rattle.system_host.proofs.children.RealHostHost.spawn.Goals as goal

pub returns-in-Ok-clause-made : goal.returns-in-Ok-clause-made
returns-in-Ok-clause-made g c = rw (← c.self.view_is) record {
  faults = refl;
  others = tt;
  did = (
    c.len-number.ensures ∙ c.reserve_one.ensures.count ∙ c.self.inside.children.ok.0,
    (c.in-Ok.child, c.push_reserved.ensures.items ∙ ap (λ children. children ++ c.in-Ok.child ∷ []) c.reserve_one.ensures.children),
  );
}
