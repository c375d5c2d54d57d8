-- Names of live buffers, found and not found.
use Rattle.std.proofs.Common.{◌≡◌, ◌≢◌, ℕ, zero, suc, ◌+◌, Bool, true, false, List, [], ◌∷◌, Option, Some, None, map, refl, ap, subst, ◌∙◌}
use Rattle.std.specs.Prelude.{slice_get, slice_set, option_map}
use Rattle.std.proofs.lemmas.Option.{same_Some, slice_get-map}
use Rattle.text_model.specs.Characters.{Ch}
use Rattle.text_model.specs.Properties.{same_ch}
use Rattle.text_model.proofs.Sameness.{same_list-same, same_ch-same}
use Rattle.text_model.proofs.Lists.{set_other}
use Rattle.editor_model.specs.Editor.{Live, find_from, find, same_name}
use Rattle.buffer_table.specs.Kept.{Named, Kept, Lives, live_of, editor_of}

same_itself : (name : List Ch) → same_name name name ≡ true
same_itself name = same_list-same same_ch same_ch-same name

-- a name that isn't found is none of theirs
not_theirs : (i : ℕ) (bs : List (Option Live)) (name : List Ch) → find_from i bs name ≡ None → (j : ℕ) (l : Live) → slice_get bs j ≡ Some (Some l) → l.name ≢ name
not_theirs i [] name h j l at e = cc
not_theirs i (None ∷ bs) name h zero l at e = cc
not_theirs i (None ∷ bs) name h (suc j) l at e = not_theirs (i + 1) bs name h j l at e
not_theirs i (Some b ∷ bs) name h j l at e = go (same_name b.name name) refl h j at (λ k m there. not_theirs (i + 1) bs name k m l there e)
  where
    go : (t : Bool) → same_name b.name name ≡ t → (let o : Option ℕ = elim t [ true ↦ Some i | false ↦ find_from (i + 1) bs name ] in o) ≡ None → (j : ℕ) → slice_get (Some b ∷ bs) j ≡ Some (Some l)
        → (find_from (i + 1) bs name ≡ None → (m : ℕ) → slice_get bs m ≡ Some (Some l) → ⊥) → ⊥
    go true s k j at later = cc
    go false s k zero at later =
        let same : b ≡ l = same_Some b l (same_Some (Some b) (Some l) at) in
        let named : b.name ≡ name = ap (λ (x : Live). x.name) same ∙ e in
        let yes : same_name b.name name ≡ true = subst (λ m. same_name b.name m ≡ true) named (same_itself b.name) in
        cc
    go false s k (suc j) at later = later k j at

shown_there : (k : Kept) (j : ℕ) (m : Named) → Lives k.buffers j m → slice_get (editor_of k).buffers j ≡ Some (Some (live_of k.pool m))
shown_there k j m l = slice_get-map (option_map (live_of k.pool)) k.buffers j ∙ ap (option_map (option_map (live_of k.pool))) l

pub name_is_free : (k : Kept) (name : List Ch) → find (editor_of k) name ≡ None → (j : ℕ) (m : Named) → Lives k.buffers j m → m.name ≢ name
name_is_free k name h j m l = not_theirs 0 (editor_of k).buffers name h j (live_of k.pool m) (shown_there k j m l)

pub free_for : (k : Kept) (id : ℕ) (name : List Ch) → find_from 0 (slice_set (editor_of k).buffers id None) name ≡ None → (j : ℕ) (m : Named) → j ≢ id → Lives k.buffers j m → m.name ≢ name
free_for k id name h j m e l = not_theirs 0 (slice_set (editor_of k).buffers id None) name h j (live_of k.pool m) (set_other (editor_of k).buffers id j None e ∙ shown_there k j m l)
