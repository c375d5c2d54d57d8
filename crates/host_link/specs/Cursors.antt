-- How a host in memory keeps what is left of its plays: by how much of each was answered.
use Rattle.std.specs.Prelude.{◌≡◌, ℕ, ◌+◌, Bool, if◌then◌else◌, List, [], ◌∷◌, drop, map}
use Rattle.plain_machine.specs.Exchanges.{Answer, Bytes}
use Rattle.ek_types.specs.Listing.{items_of}
use Rattle.host_link.specs.Meaning.{answer_of}
use Rattle.host_link.specs.Hosts.{Fits, got_answer}
use Rattle.host_link.specs.Played.{PlayState, read_as}
use Rattle.host_link.specs.declared.host.Spawned.{Spawned}
use Rattle.host_link.specs.declared.host.Spawned.TheVariants as spawned
use Rattle.host_link.specs.declared.play.Play.{Play}
use Rattle.host_link.specs.declared.play.Cursor.{Cursor}
use Rattle.host_link.specs.declared.play.ReadTurn.{ReadTurn}

-- the play of a child that nothing was asked of
abbrev pub whole_play : Play → PlayState
whole_play p = record { reads = map answer_of (items_of p.reads); ends = map answer_of (items_of p.ends) }

-- an answer that, if it gives bytes, has given so many of them
abbrev pub less : ℕ → Answer → Answer
less given (Bytes bytes) = Bytes (drop given bytes)
less given answer = answer

-- answers of which the first has given so many bytes
abbrev pub less_first : ℕ → List Answer → List Answer
less_first given [] = []
less_first given (answer ∷ rest) = less given answer ∷ rest

abbrev pub fresh_cursor : Cursor
fresh_cursor = record { reads = 0; bytes = 0; ends = 0 }

abbrev pub rest_of : Play → Cursor → PlayState
rest_of p c = record {
  reads = less_first c.bytes (drop c.reads (map answer_of (items_of p.reads)));
  ends = drop c.ends (map answer_of (items_of p.ends));
}

-- what is left of all plays; those without a cursor are whole
abbrev pub rests : List Play → List Cursor → List PlayState
rests plays [] = map whole_play plays
rests [] (c ∷ cursors) = []
rests (p ∷ plays) (c ∷ cursors) = rest_of p c ∷ rests plays cursors

-- the cursors of the children after a spawn
abbrev pub cursors_by : Spawned → List Cursor
cursors_by (spawned.Started child) = fresh_cursor ∷ []
cursors_by spawned.Refused = []

-- the cursor after a read: the answer is used up, or it has given so many bytes
abbrev pub moved_by : Cursor → Bool → ℕ → Cursor
moved_by c used given = if used then record c { reads = c.reads + 1; bytes = 0 } else record c { bytes = given }

-- what a read of an answer into a room comes to, the room as it lies afterwards
pub record IsReadTurn (answer : Answer) (room : ℕ) (into : List ℕ) (t : ReadTurn) : Type 0 where
  pub told : answer_of t.answer ≡ read_as room answer
  pub got : got_answer into t.got ≡ answer_of t.answer
  pub fits : Fits room t.got
