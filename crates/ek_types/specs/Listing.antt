-- A list beside its spare room.
use Rattle.std.specs.Prelude.{ℕ, ◌-◌, List, vec_len, vec_capacity}
use Rattle.ek_types.specs.declared.list.ListOf.{ListOf}

-- the items, in order
abbrev pub items_of : {T : Type 0} → ListOf T → List T
items_of list = list.items.items

-- how many more fit with no memory taken
abbrev pub spare_of : {T : Type 0} → ListOf T → ℕ
spare_of list = vec_capacity list.items - vec_len list.items

-- a list seen with its spare
pub record Roomy (T : Type 0) : Type 0 where
  pub items : List T
  pub spare : ℕ
