-- Worked rows: overlays.
use Rattle.std.specs.Prelude.{ℕ, [], ◌∷◌, codes}
use Rattle.text_model.specs.Properties.{Symbol}
use Rattle.editor_model.specs.Values.{Str, Name, Prim}
use Rattle.worked_rows.specs.Row.{Row, row, script, call, set, number, string, symbol, quoted, nil, t}
use Rattle.worked_rows.specs.Row.{with_set, evaporate, priority}

-- An insertion before markers moves the ends of overlays.
--     (insert "abcd")(make-overlay 1 3)(make-overlay 3 5)(goto-char 3)(insert-before-markers "xy")
abbrev pub overlays_before_markers : Row
overlays_before_markers =
    row (script [] [] (
    call Prim.Insert (string (codes "abcd") ∷ []) ∷
    call Prim.MakeOverlay (number 1 ∷ number 3 ∷ []) ∷
    call Prim.MakeOverlay (number 3 ∷ number 5 ∷ []) ∷
    call Prim.GotoChar (number 3 ∷ []) ∷
    call Prim.InsertBeforeMarkers (string (codes "xy") ∷ []) ∷ []
    )) [] (
    codes "= nil" ∷
    codes "= #<overlay from 1 to 3 in *scratch*>" ∷
    codes "= #<overlay from 3 to 5 in *scratch*>" ∷
    codes "= 3" ∷
    codes "= nil" ∷
    codes "buffer *scratch* point 5 min 1 max 7 modified t current" ∷
    codes "text \"abxycd\"" ∷
    codes "overlay 0 #<overlay from 1 to 5 in *scratch*> nil" ∷
    codes "overlay 1 #<overlay from 5 to 7 in *scratch*> nil" ∷ []
    )

-- Empty overlays at an insertion, by their two flags.
--     (insert "abcd")
-- (make-overlay 3 3 nil nil nil)(make-overlay 3 3 nil nil t)(make-overlay 3 3 nil t t)(make-overlay 3 3 nil
-- t nil) (goto-char 3)(insert "xy")
abbrev pub empty_overlays_at_an_insertion : Row
empty_overlays_at_an_insertion =
    row (script [] [] (
    call Prim.Insert (string (codes "abcd") ∷ []) ∷
    call Prim.MakeOverlay (number 3 ∷ number 3 ∷ nil ∷ nil ∷ nil ∷ []) ∷
    call Prim.MakeOverlay (number 3 ∷ number 3 ∷ nil ∷ nil ∷ t ∷ []) ∷
    call Prim.MakeOverlay (number 3 ∷ number 3 ∷ nil ∷ t ∷ t ∷ []) ∷
    call Prim.MakeOverlay (number 3 ∷ number 3 ∷ nil ∷ t ∷ nil ∷ []) ∷
    call Prim.GotoChar (number 3 ∷ []) ∷
    call Prim.Insert (string (codes "xy") ∷ []) ∷ []
    )) [] (
    codes "= nil" ∷
    codes "= #<overlay from 3 to 3 in *scratch*>" ∷
    codes "= #<overlay from 3 to 3 in *scratch*>" ∷
    codes "= #<overlay from 3 to 3 in *scratch*>" ∷
    codes "= #<overlay from 3 to 3 in *scratch*>" ∷
    codes "= 3" ∷
    codes "= nil" ∷
    codes "buffer *scratch* point 5 min 1 max 7 modified t current" ∷
    codes "text \"abxycd\"" ∷
    codes "overlay 0 #<overlay from 3 to 3 in *scratch*> nil" ∷
    codes "overlay 1 #<overlay from 3 to 5 in *scratch*> nil" ∷
    codes "overlay 2 #<overlay from 5 to 5 in *scratch*> nil" ∷
    codes "overlay 3 #<overlay from 3 to 3 in *scratch*> nil" ∷ []
    )

-- An overlay that becomes empty evaporates.
--     (insert "abcd")(setq o (make-overlay 2 4))(overlay-put o 'evaporate t)
--     (setq q (make-overlay 1 3))(overlay-put q 'evaporate t)(delete-region 2 4)
abbrev pub evaporating_overlays : Row
evaporating_overlays =
    let o : ℕ = 17 in let q : ℕ = 18 in
    row (script (codes "o" ∷ codes "q" ∷ []) [] (
    call Prim.Insert (string (codes "abcd") ∷ []) ∷
    set o Prim.MakeOverlay (number 2 ∷ number 4 ∷ []) ∷
    call Prim.OverlayPut (Name o ∷ symbol evaporate ∷ t ∷ []) ∷
    set q Prim.MakeOverlay (number 1 ∷ number 3 ∷ []) ∷
    call Prim.OverlayPut (Name q ∷ symbol evaporate ∷ t ∷ []) ∷
    call Prim.DeleteRegion (number 2 ∷ number 4 ∷ []) ∷ []
    )) [] (
    codes "= nil" ∷
    codes "= #<overlay from 2 to 4 in *scratch*>" ∷
    codes "= t" ∷
    codes "= #<overlay from 1 to 3 in *scratch*>" ∷
    codes "= t" ∷
    codes "= nil" ∷
    codes "buffer *scratch* point 3 min 1 max 3 modified t current" ∷
    codes "text \"ad\"" ∷
    codes "overlay 0 #<overlay in no buffer> (evaporate t)" ∷
    codes "overlay 1 #<overlay from 1 to 2 in *scratch*> (evaporate t)" ∷ []
    )

-- Of two overlays the inner one wins, unless the outer one has priority.
--     (insert #("abcd" 0 4 (face plain)))(setq a (make-overlay 1 5))(overlay-put a 'face 'outer)
--     (setq b (make-overlay 2 4))(overlay-put b 'face 'inner)(get-char-property 2 'face)
--     (overlay-put a 'priority 1)(get-char-property 2 'face)(get-char-property 5 'face)
abbrev pub overlay_priorities : Row
overlay_priorities =
    let face : ℕ = 17 in let plain : ℕ = 18 in let a : ℕ = 19 in let outer : ℕ = 20 in
    let b : ℕ = 21 in let inner : ℕ = 22 in
    row (script (codes "face" ∷ codes "plain" ∷ codes "a" ∷ codes "outer" ∷ codes "b" ∷ codes "inner" ∷ []) [] (
    call Prim.Insert (quoted (Str (with_set ((face, Symbol plain) ∷ []) (codes "abcd"))) ∷ []) ∷
    set a Prim.MakeOverlay (number 1 ∷ number 5 ∷ []) ∷
    call Prim.OverlayPut (Name a ∷ symbol face ∷ symbol outer ∷ []) ∷
    set b Prim.MakeOverlay (number 2 ∷ number 4 ∷ []) ∷
    call Prim.OverlayPut (Name b ∷ symbol face ∷ symbol inner ∷ []) ∷
    call Prim.GetCharProperty (number 2 ∷ symbol face ∷ []) ∷
    call Prim.OverlayPut (Name a ∷ symbol priority ∷ number 1 ∷ []) ∷
    call Prim.GetCharProperty (number 2 ∷ symbol face ∷ []) ∷
    call Prim.GetCharProperty (number 5 ∷ symbol face ∷ []) ∷ []
    )) [] (
    codes "= nil" ∷
    codes "= #<overlay from 1 to 5 in *scratch*>" ∷
    codes "= outer" ∷
    codes "= #<overlay from 2 to 4 in *scratch*>" ∷
    codes "= inner" ∷
    codes "= inner" ∷
    codes "= 1" ∷
    codes "= outer" ∷
    codes "= nil" ∷
    codes "buffer *scratch* point 5 min 1 max 5 modified t current" ∷
    codes "text #(\"abcd\" 0 4 (face plain))" ∷
    codes "overlay 0 #<overlay from 1 to 5 in *scratch*> (priority 1 face outer)" ∷
    codes "overlay 1 #<overlay from 2 to 4 in *scratch*> (face inner)" ∷ []
    )

-- Which overlays stand where, and where the next one begins or ends.
--     (insert "abc")(make-overlay 2 2)(make-overlay 1 3)(make-overlay 4 4)
-- (overlays-in 2 4)(overlays-at 2)(next-overlay-change 1)(previous-overlay-change
-- 4)(previous-overlay-change 1)
abbrev pub overlays_by_place : Row
overlays_by_place =
    row (script [] [] (
    call Prim.Insert (string (codes "abc") ∷ []) ∷
    call Prim.MakeOverlay (number 2 ∷ number 2 ∷ []) ∷
    call Prim.MakeOverlay (number 1 ∷ number 3 ∷ []) ∷
    call Prim.MakeOverlay (number 4 ∷ number 4 ∷ []) ∷
    call Prim.OverlaysIn (number 2 ∷ number 4 ∷ []) ∷
    call Prim.OverlaysAt (number 2 ∷ []) ∷
    call Prim.NextOverlayChange (number 1 ∷ []) ∷
    call Prim.PreviousOverlayChange (number 4 ∷ []) ∷
    call Prim.PreviousOverlayChange (number 1 ∷ []) ∷ []
    )) [] (
    codes "= nil" ∷
    codes "= #<overlay from 2 to 2 in *scratch*>" ∷
    codes "= #<overlay from 1 to 3 in *scratch*>" ∷
    codes "= #<overlay from 4 to 4 in *scratch*>" ∷
    codes "= (#<overlay from 2 to 2 in *scratch*> #<overlay from 1 to 3 in *scratch*> #<overlay from 4 to 4 in *scratch*>)" ∷
    codes "= (#<overlay from 1 to 3 in *scratch*>)" ∷
    codes "= 2" ∷
    codes "= 3" ∷
    codes "= 1" ∷
    codes "buffer *scratch* point 4 min 1 max 4 modified t current" ∷
    codes "text \"abc\"" ∷
    codes "overlay 0 #<overlay from 2 to 2 in *scratch*> nil" ∷
    codes "overlay 1 #<overlay from 1 to 3 in *scratch*> nil" ∷
    codes "overlay 2 #<overlay from 4 to 4 in *scratch*> nil" ∷ []
    )
