-- A host in memory: what it answers, and what it is afterwards.
use Rattle.std.specs.Prelude.{◌≡◌, ℕ, pos, nat_lt, Bool, true, false, if◌then◌else◌, List, [], ◌∷◌}
use Rattle.std.specs.Prelude.{◌++◌, length, take, drop, get_or, slice_set, Some}
use Rattle.ek_types.specs.Io.{next_count}
use Rattle.ek_types.specs.MemoryIo.{fails_at}
use Rattle.plain_machine.specs.Exchanges.{Ask, Answer, Exchange, Spawn, Read, AskEnd, Send, Close, Kill}
use Rattle.plain_machine.specs.Exchanges.{Started, Refused, Bytes, Nothing, End, Code, Signal, Running}
use Rattle.plain_machine.specs.Exchanges.{Sent, Broken, Closed, Killed, Failed}
use Rattle.host_link.specs.Hosts.{HostState, faults_after}

-- what a child still answers to reads, and to the question how it ended
pub record PlayState : Type 0 where
  pub reads : List Answer
  pub ends : List Answer

-- a host in memory: what is left of each child's play, also of the children that aren't started yet;
-- whether each child that was started was asked Kill; the numbers of the calls that fail; how many calls
-- there were and how many of them were faults; and the exchanges
pub record MemoryHostState : Type 0 where
  pub plays : List PlayState
  pub kills : List Bool
  pub fails : List ℕ
  pub calls : ℕ
  pub faults : ℕ
  pub told : List Exchange

-- what a host in memory means as a host
abbrev pub host_state : MemoryHostState → HostState
host_state s = record { told = Some s.told; faults = s.faults; kills = s.kills }

-- READS: answers of another kind count as nothing, and so do no bytes
abbrev pub read_as : ℕ → Answer → Answer
read_as room (Bytes []) = Nothing
read_as room (Bytes (b ∷ bytes)) = Bytes (take room (b ∷ bytes))
read_as room End = End
read_as room Failed = Failed
read_as room _ = Nothing

-- what is left of an answer: bytes that the room doesn't hold come next
abbrev pub left_of : ℕ → Answer → List Answer
left_of room (Bytes bytes) = if nat_lt room (length bytes) then Bytes (drop room bytes) ∷ [] else []
left_of room _ = []

abbrev pub next_read : ℕ → List Answer → Answer
next_read room [] = End
next_read room (answer ∷ rest) = read_as room answer

abbrev pub after_read : ℕ → List Answer → List Answer
after_read room [] = []
after_read room (answer ∷ rest) = left_of room answer ++ rest

-- the room that was given, as it lies after a read: bytes stand at its front
abbrev pub room_after : List ℕ → Answer → List ℕ
room_after into (Bytes bytes) = bytes ++ drop (length bytes) into
room_after into _ = into

-- ENDS: answers of another kind count as running
abbrev pub end_as : Answer → Answer
end_as (Code n) = Code n
end_as Signal = Signal
end_as Failed = Failed
end_as _ = Running

abbrev pub next_end : List Answer → Answer
next_end [] = Code (pos 0)
next_end (answer ∷ rest) = end_as answer

-- THE ANSWERS OF THE HOST: a call that fails uses up nothing
abbrev pub fails_now : MemoryHostState → Bool
fails_now s = fails_at s.fails s.calls

abbrev pub play_of : MemoryHostState → ℕ → PlayState
play_of s child = get_or s.plays child (record { reads = []; ends = [] })

-- a spawn past the last play is refused
abbrev pub spawn_reply : MemoryHostState → Answer
spawn_reply s =
    if fails_now s then Refused else (if nat_lt (length s.kills) (length s.plays)
    then Started (length s.kills) else Refused)

abbrev pub read_reply : MemoryHostState → ℕ → ℕ → Answer
read_reply s child room = if fails_now s then Failed else next_read room (play_of s child).reads

abbrev pub plays_after_read : MemoryHostState → ℕ → ℕ → List PlayState
plays_after_read s child room =
    if fails_now s then s.plays
    else slice_set s.plays child (record (play_of s child) { reads = after_read room (play_of s child).reads })

abbrev pub end_reply : MemoryHostState → ℕ → Answer
end_reply s child = if fails_now s then Failed else next_end (play_of s child).ends

abbrev pub plays_after_end : MemoryHostState → ℕ → List PlayState
plays_after_end s child =
    if fails_now s then s.plays
    else slice_set s.plays child (record (play_of s child) { ends = drop 1 (play_of s child).ends })

abbrev pub send_reply : MemoryHostState → Answer
send_reply s = if fails_now s then Broken else Sent

abbrev pub kill_reply : MemoryHostState → Answer
kill_reply s = if fails_now s then Failed else Killed

-- the host after an exchange, with these plays and children
abbrev pub after_exchange : MemoryHostState → List PlayState → List Bool → Ask → Answer → MemoryHostState
after_exchange s plays kills ask answer = record {
  plays = plays;
  kills = kills;
  fails = s.fails;
  calls = next_count s.calls;
  faults = faults_after answer s.faults;
  told = s.told ++ record { ask = ask; answer = answer } ∷ [];
}

-- A CALL OF ANY KIND
-- what is answered, where there is room for so many bytes
abbrev pub reply_to : MemoryHostState → Ask → ℕ → Answer
reply_to s (Spawn program args) room = spawn_reply s
reply_to s (Read child) room = read_reply s child room
reply_to s (AskEnd child) room = end_reply s child
reply_to s (Send child bytes) room = send_reply s
reply_to s (Close child) room = Closed
reply_to s (Kill child) room = kill_reply s

-- what is left of the plays
abbrev pub plays_after : MemoryHostState → Ask → ℕ → List PlayState
plays_after s (Read child) room = plays_after_read s child room
plays_after s (AskEnd child) room = plays_after_end s child
plays_after s _ room = s.plays

-- the children, and which of them were asked Kill
abbrev pub kills_after : List Bool → Ask → Answer → List Bool
kills_after kills (Spawn program args) (Started child) = kills ++ false ∷ []
kills_after kills (Kill child) answer = slice_set kills child true
kills_after kills _ _ = kills

-- the call has this answer and leaves this host
abbrev pub Plays : MemoryHostState → MemoryHostState → Ask → ℕ → Answer → Type 0
Plays old new ask room answer =
    (answer ≡ reply_to old ask room)
    × (new ≡ after_exchange old (plays_after old ask room)
    (kills_after old.kills ask (reply_to old ask room)) ask (reply_to old ask room))
