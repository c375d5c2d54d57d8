-- A list of boxed handlers.
use Rattle.std.specs.Prelude.{List, Option, Some, None}
use Rattle.editor_model.specs.Values.{Value, Prim}

-- what a handler does, and nothing where there is none
abbrev pub done_by : {H : Type 0} → (H → Option (Prim × List Value)) → Option H → Option (Prim × List Value)
done_by does None = None
done_by does (Some h) = does h
