-- Worked rows: text properties and what an insertion inherits.
use Rattle.std.specs.Prelude.{ℕ, [], ◌∷◌, ◌++◌, codes}
use Rattle.text_model.specs.Properties.{Truth, Symbol, Symbols}
use Rattle.editor_model.specs.Values.{Sym, Str, list, Prim}
use Rattle.worked_rows.specs.Row.{Row, row, script, call, number, string, symbol, quoted, plain}
use Rattle.worked_rows.specs.Row.{with_set, front_sticky, rear_nonsticky}

-- What an inserted character takes from its neighbours.
--     (insert #("ab" 0 1 (face bold rear-nonsticky (face)) 1 2 (face italic front-sticky t)))
--     (goto-char 2)(insert-and-inherit "x")
abbrev pub stickiness : Row
stickiness =
    let face : ℕ = 17 in let bold : ℕ = 18 in let italic : ℕ = 19 in
    row (script (codes "face" ∷ codes "bold" ∷ codes "italic" ∷ []) [] (
    call Prim.Insert (quoted (Str (with_set
    ((rear_nonsticky, Symbols (face ∷ [])) ∷ (face, Symbol bold) ∷ []) (codes "a") ++
    with_set ((front_sticky, Truth) ∷ (face, Symbol italic) ∷ []) (codes "b"))) ∷ []) ∷
    call Prim.GotoChar (number 2 ∷ []) ∷
    call Prim.InsertAndInherit (string (codes "x") ∷ []) ∷ []
    )) [] (
    codes "= nil" ∷
    codes "= 2" ∷
    codes "= nil" ∷
    codes "buffer *scratch* point 3 min 1 max 4 modified t current" ∷
    codes "text #(\"axb\" 0 1 (rear-nonsticky (face) face bold) 1 2 (face italic) 2 3 (front-sticky t face italic))" ∷ []
    )

-- Where properties change, and where one has a value.
--     (insert #("abcd" 1 3 (face bold)))
--     (next-property-change 1)(next-property-change 2)(next-property-change 4)(next-property-change 2 3)
--     (add-text-properties 2 4 '(face bold))(text-property-not-all 1 5 'face 'bold)
abbrev pub property_changes : Row
property_changes =
    let face : ℕ = 17 in let bold : ℕ = 18 in
    row (script (codes "face" ∷ codes "bold" ∷ []) [] (
    call Prim.Insert (quoted (Str (plain (codes "a") ++
    (with_set ((face, Symbol bold) ∷ []) (codes "bc") ++ plain (codes "d")))) ∷ []) ∷
    call Prim.NextPropertyChange (number 1 ∷ []) ∷
    call Prim.NextPropertyChange (number 2 ∷ []) ∷
    call Prim.NextPropertyChange (number 4 ∷ []) ∷
    call Prim.NextPropertyChange (number 2 ∷ number 3 ∷ []) ∷
    call Prim.AddTextProperties (number 2 ∷ number 4 ∷ quoted (list (Sym face ∷ Sym bold ∷ [])) ∷ []) ∷
    call Prim.TextPropertyNotAll (number 1 ∷ number 5 ∷ symbol face ∷ symbol bold ∷ []) ∷ []
    )) [] (
    codes "= nil" ∷
    codes "= 2" ∷
    codes "= 4" ∷
    codes "= nil" ∷
    codes "= 3" ∷
    codes "= nil" ∷
    codes "= 1" ∷
    codes "buffer *scratch* point 5 min 1 max 5 modified t current" ∷
    codes "text #(\"abcd\" 1 3 (face bold))" ∷ []
    )

-- What stands in front is inherited from as it is, what stands behind only where it says so.
-- (insert #("ab" 0 1 (face bold)))(goto-char 2)(insert-and-inherit "x")(goto-char 1)(insert-and-inherit
-- "y")
abbrev pub inherited_from_the_front : Row
inherited_from_the_front =
    let face : ℕ = 17 in let bold : ℕ = 18 in
    row (script (codes "face" ∷ codes "bold" ∷ []) [] (
    call Prim.Insert (quoted (Str (with_set ((face, Symbol bold) ∷ []) (codes "a") ++
    with_set [] (codes "b"))) ∷ []) ∷
    call Prim.GotoChar (number 2 ∷ []) ∷
    call Prim.InsertAndInherit (string (codes "x") ∷ []) ∷
    call Prim.GotoChar (number 1 ∷ []) ∷
    call Prim.InsertAndInherit (string (codes "y") ∷ []) ∷ []
    )) [] (
    codes "= nil" ∷
    codes "= 2" ∷
    codes "= nil" ∷
    codes "= 1" ∷
    codes "= nil" ∷
    codes "buffer *scratch* point 2 min 1 max 5 modified t current" ∷
    codes "text #(\"yaxb\" 1 3 (face bold))" ∷ []
    )
