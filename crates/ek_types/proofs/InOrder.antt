-- Two lists compared item by item.
use Rattle.std.proofs.Common.{◌≡◌, ℕ, ◌+◌, Bool, true, false, List, drop}
use Rattle.std.specs.Prelude.{slice_get, Some}
use Rattle.text_model.specs.Properties.{same_list}
use Rattle.text_model.proofs.Lists.{drop_at}

pub differ_at : {A : Type 0} (same : A → A → Bool) (xs ys : List A) (i : ℕ) (x y : A) (whole : Bool) → slice_get xs i ≡ Some x → slice_get ys i ≡ Some y → same x y ≡ false →
    same_list same (drop i xs) (drop i ys) ≡ whole → false ≡ whole
differ_at same xs ys i x y whole at_x at_y k h = rw (drop_at xs i x at_x, drop_at ys i y at_y, k) at h

pub agree_at : {A : Type 0} (same : A → A → Bool) (xs ys : List A) (i : ℕ) (x y : A) (whole : Bool) → slice_get xs i ≡ Some x → slice_get ys i ≡ Some y → same x y ≡ true →
    same_list same (drop i xs) (drop i ys) ≡ whole → same_list same (drop (i + 1) xs) (drop (i + 1) ys) ≡ whole
agree_at same xs ys i x y whole at_x at_y k h = rw (drop_at xs i x at_x, drop_at ys i y at_y, k) at h
