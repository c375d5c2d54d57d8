use Rattle.std.proofs.Common.{◌≡◌, refl, sym, ap, ◌∙◌, subst, [], ◌∷◌, ◌++◌, map, length, None, string_bytes, arith}
use Rattle.std.proofs.lemmas.List.{map-append, length-append, length-map}
use Rattle.ek_types.specs.Names.{number_in, AreNumbered}
use Rattle.ek_types.proofs.Naming.{insert_key-new, AreNumbered-more}
use Rattle.ek_types.proofs.symbol.Symbols.put_last.Goals as goal

-- the names after the insertion
names_are : (c : goal.In_ok-insert) → map string_bytes c.insert.new.self.keys ≡ c.args.self.now ++ c.args.name.now ∷ []
names_are c =
    let no_number : number_in (map string_bytes c.self.inside.names.keys) (string_bytes c.in_ok-text.text) ≡ None =
    rw (c.in_ok-text.ensures.ok, c.self.view_is) c.requires.absent in
    ap (map string_bytes) (c.in_ok-insert.ensures.keys ∙ insert_key-new string_bytes c.self.inside.names.keys c.in_ok-text.text no_number) ∙
    (map-append string_bytes c.self.inside.names.keys (c.in_ok-text.text ∷ []) ∙
    rw (c.in_ok-text.ensures.ok, c.self.view_is) refl)

pub invariant_of-self-2 : goal.invariant_of-self-2
invariant_of-self-2 c = (
  subst AreNumbered (sym (names_are c)) (AreNumbered-more c.args.self.now c.args.name.now (subst AreNumbered c.self.view_is c.self.invariant.0) c.requires.absent),
  (let longer : length (map string_bytes c.insert.new.self.keys) ≡ length (c.args.self.now ++ c.args.name.now ∷ []) = ap length (names_are c) in
      omega (arith, c.requires.room, simp (length-map, length-append) at longer)),
)

pub returns-clause-ok : goal.returns-clause-ok
returns-clause-ok c = names_are c
