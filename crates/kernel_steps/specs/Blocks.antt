-- What blocks of the code and what they keep stand for, and how calls go.
use Rattle.editor_model.specs.Values.{Block, SaveExcursion, SaveRestriction, SaveCurrentBuffer}
use Rattle.editor_model.specs.Values.{InhibitHooks, InhibitReadOnly}
use Rattle.editor_model.specs.Prims.{Manner, OnlyAsks, SetsState, ChangesText, ConcernsHandlers}
use Rattle.plain_machine.specs.Items.{Kept, KeptExcursion, KeptRestriction, KeptBuffer, KeptInhibition}
use Rattle.plain_machine.specs.Items.{KeptLifting}
use Rattle.kernel_steps.specs.declared.kernel.Block as declared
use Rattle.kernel_steps.specs.declared.kernel.Block.TheVariants as block
use Rattle.kernel_steps.specs.declared.kernel.Kept as written
use Rattle.kernel_steps.specs.declared.kernel.Kept.TheVariants as kept
use Rattle.kernel_steps.specs.declared.kernel.Manner as made
use Rattle.kernel_steps.specs.declared.kernel.Manner.TheVariants as manner

abbrev pub block_of : declared.Block → Block
block_of block.Excursion = SaveExcursion
block_of block.Restriction = SaveRestriction
block_of block.CurrentBuffer = SaveCurrentBuffer
block_of block.NoHooks = InhibitHooks
block_of block.ReadOnlyOff = InhibitReadOnly

abbrev pub kept_as : written.Kept → Kept
kept_as kept.Excursion = KeptExcursion
kept_as kept.Restriction = KeptRestriction
kept_as (kept.Buffer b) = KeptBuffer b
kept_as (kept.Hooks old) = KeptInhibition old
kept_as (kept.Lifting old) = KeptLifting old

abbrev pub manner_as : made.Manner → Manner
manner_as manner.OnlyAsks = OnlyAsks
manner_as manner.SetsState = SetsState
manner_as manner.ChangesText = ChangesText
manner_as manner.ConcernsHandlers = ConcernsHandlers
