-- Properties given anew one after the other.
use Rattle.std.proofs.Common.{◌≡◌, ℕ, ◌+◌, drop, ap, ◌∙◌}
use Rattle.std.specs.Prelude.{slice_get, Some}
use Rattle.text_model.specs.Properties.{PropVal, PropSet, put, put_all, with_value, given}
use Rattle.text_model.specs.Ordered.{IsProper}
use Rattle.text_model.proofs.Lists.{drop_at}
use Rattle.text_model.proofs.Sets.{given_value, value_at}

pub one_put : (more set s : PropSet) (i name : ℕ) (v : PropVal) → IsProper more → slice_get more i ≡ Some (name, v) → s ≡ put set name (given v) → put_all s (drop (i + 1) more) ≡ put_all set (drop i more)
one_put more set s i name v h at e =
    let found : put set name (given v) ≡ with_value set name v = ap (put set name) (given_value v (value_at more i (name, v) h.values at)) in
    rw (drop_at more i (name, v) at) (ap (λ t. put_all t (drop (i + 1) more)) (e ∙ found))
