-- What is taken from a source.
use Rattle.std.proofs.Common.{◌≡◌, ℕ, ◌<◌, ◌≤◌, List, [], ◌++◌, length, Some, None, refl, sym, ap, ◌∙◌, append_assoc, append-nil, length-append, arith}
use Rattle.std.specs.declared.option.Option.{Option}
use Rattle.std.specs.Io.KnownBytes.{Consumes, Keeps, IsAtEnd}
use Rattle.plain_machine.specs.Grammar.{longest_script}
use Rattle.ek_types.specs.Io.{SourceState}
use Rattle.kernel_top.specs.Reading.{HasEnded, IsGivenUp}
use Rattle.kernel_top.specs.Scripts.{IsUnreadScript, LeavesScriptUnread}
use Rattle.kernel_top.specs.declared.reading.Refused.{Refused}
use Rattle.kernel_top.specs.declared.reading.Refused.TheVariants as refused
use Rattle.kernel_top.specs.declared.status.Status.{Status}

-- the end that a read met is the end still
pub ended : (begun old new : Option (List ℕ)) (bytes : List ℕ) → Consumes begun old bytes → Keeps old new → IsAtEnd old → HasEnded begun new
ended None old new bytes c k e = tt
ended (Some s) None new bytes c k e = absurd c
ended (Some s) (Some t) None bytes c k e = absurd k
ended (Some s) (Some t) (Some u) bytes c k e = k ∙ e

pub consumes_nothing : (left : Option (List ℕ)) → Consumes left left []
consumes_nothing None = tt
consumes_nothing (Some s) = refl

pub consumes_kept : (begun old new : Option (List ℕ)) (bytes : List ℕ) → Consumes begun old bytes → Keeps old new → Consumes begun new bytes
consumes_kept None old new bytes c k = tt
consumes_kept (Some s) None new bytes c k = absurd c
consumes_kept (Some s) (Some t) None bytes c k = absurd k
consumes_kept (Some s) (Some t) (Some u) bytes c k = c ∙ ap (λ l. bytes ++ l) (sym k)

pub consumes_more : (begun old new : Option (List ℕ)) (bytes more : List ℕ) → Consumes begun old bytes → Consumes old new more → Consumes begun new (bytes ++ more)
consumes_more None old new bytes more c d = tt
consumes_more (Some s) None new bytes more c d = absurd c
consumes_more (Some s) (Some t) None bytes more c d = absurd d
consumes_more (Some s) (Some t) (Some u) bytes more c d = c ∙ ap (λ l. bytes ++ l) d ∙ sym (append_assoc bytes more u)

-- what was read of a source whose end was met is all that it told
pub all_read : (bytes read : List ℕ) (now : Option (List ℕ)) → Consumes (Some bytes) now read → IsAtEnd now → bytes ≡ read
all_read bytes read None taken end = absurd taken
all_read bytes read (Some left) taken end = taken ∙ ap (λ l. read ++ l) end ∙ append-nil read

pub front_only : (bytes read : List ℕ) (now : Option (List ℕ)) → Consumes (Some bytes) now read → length read ≤ length bytes
front_only bytes read None taken = absurd taken
front_only bytes read (Some left) taken = omega (arith, ap length taken, length-append read left)

-- reading was given up, so the bytes of a script weren't had
pub left_unread : (answer : Status) (why : Refused) (source source' : SourceState) → IsGivenUp longest_script why source source' → ((bytes : List ℕ) → (why ≡ refused.TooLong → longest_script < length bytes) → IsUnreadScript answer bytes) → LeavesScriptUnread answer source source'
left_unread answer why source source' given_up row = record { read = given_up.bytes; taken = given_up.taken; few = given_up.few; unread = row given_up.bytes given_up.long }
