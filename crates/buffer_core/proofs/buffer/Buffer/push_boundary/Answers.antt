use Rattle.text_model.specs.Undo.{Undo, with_boundary}
use Rattle.buffer_core.proofs.Recorded.{Undoable, either_way, undoable-boundary}
use Rattle.buffer_core.proofs.buffer.Buffer.push_boundary.Goals as goal

pub invariant_of-self : goal.invariant_of-self
invariant_of-self c =
    record {
      size = c.self.invariant.size;
      begin = c.self.invariant.begin;
      point = c.self.invariant.point;
      end = c.self.invariant.end;
      undo = either_way (λ (u : Undo). Undoable u.entries) c.boundary.result c.boundary.new.self.state (with_boundary c.self.inside.undo.state) c.self.inside.undo.state c.boundary.ensures.ok c.boundary.ensures.err
          (undoable-boundary c.self.inside.undo.state c.self.invariant.undo) c.self.invariant.undo;
    }
