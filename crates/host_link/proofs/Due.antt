-- How many kills are due as children are asked.
use Rattle.std.proofs.Common.{◌≡◌, ℕ, [], ◌∷◌, ◌++◌, length, ◌+◌, Bool, true, false, not, cond, List, get_or, Some, slice_get, slice_set, arith}
use Rattle.std.proofs.lemmas.List.Sums.{sum_by-set}
use Rattle.std.proofs.lemmas.Option.{slice_get_within, get_or_from_slice_get}
use Rattle.std.proofs.lemmas.List.{length-append}
use Rattle.std.proofs.lemmas.List.Sums.{sum_by-append}
use Rattle.host_link.specs.declared.host.Spawned.{Spawned}
use Rattle.host_link.specs.declared.host.Spawned.TheVariants as spawned
use Rattle.host_link.specs.Hosts.{after_spawn}
use Rattle.host_link.specs.Logged.{kills_due, due_by}
use Rattle.host_link.specs.Cursors.{fresh_cursor, cursors_by}
use Rattle.host_link.specs.declared.play.Cursor.{Cursor}

-- one kill less is due once a child is asked Kill
pub due_after_kill : (kills : List Bool) (child : ℕ) → slice_get kills child ≡ Some false → kills_due (slice_set kills child true) + 1 ≡ kills_due kills
due_after_kill kills child fresh =
    let was : get_or kills child true ≡ false = get_or_from_slice_get kills child false true fresh in
    let changed = sum_by-set (λ b. cond (not b) 1 0) kills child true true (slice_get_within kills child false fresh) in
    let counted = rw was at changed in
    omega (arith, counted)

-- a spawn adds its child
pub due_after_spawn : (kills : List Bool) (s : Spawned) → kills_due (after_spawn kills s) ≡ kills_due kills + due_by s
due_after_spawn kills (spawned.Started child) = sum_by-append (λ b. cond (not b) 1 0) kills (false ∷ [])
due_after_spawn kills spawned.Refused = omega arith

pub length-after_spawn : (kills : List Bool) (s : Spawned) → length (after_spawn kills s) ≡ length kills + due_by s
length-after_spawn kills (spawned.Started child) = length-append kills (false ∷ [])
length-after_spawn kills spawned.Refused = omega arith

pub length-cursors : (cursors : List Cursor) (s : Spawned) → length (cursors ++ cursors_by s) ≡ length cursors + due_by s
length-cursors cursors (spawned.Started child) = length-append cursors (fresh_cursor ∷ [])
length-cursors cursors spawned.Refused = length-append cursors []
