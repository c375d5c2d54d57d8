-- All buffers with the pool in which their characters lie, and what they are together.
use Rattle.std.specs.Prelude.{◌≡◌, ◌≢◌, ℕ, ◌+◌, ◌≤◌, Bool, true, false, List, [], ◌∷◌}
use Rattle.std.specs.Prelude.{length, map, slice_get, Option, Some, None, option_map, unwrap_or}
use Rattle.std.specs.Prelude.{is_some}
use Rattle.text_model.specs.Characters.{Ch}
use Rattle.text_model.specs.Marks.{Marks}
use Rattle.ek_types.specs.Property.{number_of}
use Rattle.ek_types.specs.declared.symbol.Sym.{Sym}
use Rattle.editor_model.specs.Values.{Value as Meant}
use Rattle.ek_call.specs.Meaning.{view}
use Rattle.ek_call.specs.declared.value.Value.{Value}
use Rattle.editor_model.specs.Editor.{Editor, Live, new_undo, same_name}
use Rattle.text_pool.specs.Pool.{Pooled, live}
use Rattle.gap_text.specs.Blocks.{Apart}
use Rattle.gap_text.specs.Text.{characters, LiesIn}
use Rattle.buffer_core.specs.Meaning.{Stored, buffer_of}
use Rattle.buffer_core.specs.Standing.{AreWithin}
use Rattle.buffer_table.specs.Standing.{StandIn}

-- a live buffer with its name
pub record Named : Type 0 where
  pub name : List Ch
  pub buffer : Stored
  pub read_only : Bool

-- the buffers by number, where a killed one is None, and all else beside the pool
pub record Kept : Type 0 where
  pub buffers : List (Option Named)
  pub current : ℕ
  pub marks : Marks
  pub registers : List (Sym × Value)
  pub pool : Pooled
  pub lifted : Bool

abbrev pub live_of : Pooled → Named → Live
live_of pool n = record { name = n.name; buffer = buffer_of pool n.buffer; read_only = n.read_only }

abbrev pub registers_of : List (Sym × Value) → List (ℕ × Meant)
registers_of registers = map (λ r. (number_of r.0, view r.1)) registers

abbrev pub editor_of : Kept → Editor
editor_of k = record {
  buffers = map (option_map (live_of k.pool)) k.buffers;
  current = k.current;
  marks = k.marks;
  registers = registers_of k.registers;
  lifted = k.lifted;
}

-- the text of a buffer can be read with its property sets
pub record IsReadable (pool : Pooled) (b : Stored) : Type 0 where
  pub lies : LiesIn pool b.text
  pub size : length (characters pool b.text) ≡ length b.sets

-- the blocks of all live buffers
abbrev pub blocks_in : List (Option Named) → ℕ
blocks_in [] = 0
blocks_in (None ∷ rest) = blocks_in rest
blocks_in (Some n ∷ rest) = length n.buffer.text.blocks + blocks_in rest

-- the cells of all live buffers: the characters of their texts and the spare beside them
abbrev pub cells_in : Pooled → List (Option Named) → ℕ
cells_in pool [] = 0
cells_in pool (None ∷ rest) = cells_in pool rest
cells_in pool (Some n ∷ rest) =
    (length (characters pool n.buffer.text) + n.buffer.text.spare) + cells_in pool rest

-- the live buffer of a number, and whether there is one
abbrev pub nobody : Named
nobody = record {
  name = [];
  buffer = record {
    text = record { blocks = []; gap = 0; spare = 0 };
    sets = [];
    begin = 0;
    end = 0;
    point = 0;
    modified = false;
    undo = record { state = new_undo; spare = 0 };
  };
  read_only = false;
}

abbrev pub is_live : List (Option Named) → (id : ℕ) → Bool
is_live buffers id = is_some (unwrap_or (slice_get buffers id) None)

abbrev pub named_at : List (Option Named) → (id : ℕ) → Named
named_at buffers id = unwrap_or (unwrap_or (slice_get buffers id) None) nobody

abbrev pub Lives : List (Option Named) → (id : ℕ) → Named → Type 0
Lives buffers id n = slice_get buffers id ≡ Some (Some n)

-- what holds but for which buffer is current: names differ; the texts lie in the pool over blocks of their
-- own, which are all that live there; markers and overlays stand in live buffers; and none of these nor a
-- kept place stands outside the text of a live buffer. A kept place of a killed buffer stays as it is, and
-- one of a buffer that wasn't made is 0.
pub record AreKept (k : Kept) : Type 0 where
  pub few : length k.buffers ≤ 256
  pub names : (id other : ℕ) (n m : Named) → id ≢ other → Lives k.buffers id n →
      Lives k.buffers other m → n.name ≢ m.name
  pub lie : (id : ℕ) (n : Named) → Lives k.buffers id n → LiesIn k.pool n.buffer.text
  pub apart : (id other : ℕ) (n m : Named) → id ≢ other → Lives k.buffers id n →
      Lives k.buffers other m → Apart n.buffer.text.blocks m.buffer.text.blocks
  pub stand : StandIn (is_live k.buffers) k.marks
  pub within : (id : ℕ) (n : Named) → Lives k.buffers id n → AreWithin id (length n.buffer.sets) k.marks
  pub unmade : (id : ℕ) → length k.buffers ≤ id → AreWithin id 0 k.marks
  pub account : live k.pool ≡ blocks_in k.buffers

-- what holds of every editor: all this, and the current buffer lives
pub record IsKept (k : Kept) : Type 0 where
  pub all : AreKept k
  pub here : is_live k.buffers k.current ≡ true

abbrev pub has_name : List Ch → Option Named → Bool
has_name name None = false
has_name name (Some n) = same_name n.name name

abbrev pub blocks_of : Option Named → List ℕ
blocks_of None = []
blocks_of (Some n) = n.buffer.text.blocks
