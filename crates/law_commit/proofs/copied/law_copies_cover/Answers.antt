-- The law, by where the entries of the index lead.
use Rattle.law_refine.proofs.Below.fkv_checkpoint.Shown.{sound_left_out}
use Rattle.law_commit.specs.Copied.Runs.{copy_events, opening_copy}
use Rattle.law_commit.proofs.OfCopied.Began.{life_begun, life_since}
use Rattle.law_commit.proofs.OfCopied.BegunFor.{life_begun_for}
use Rattle.law_commit.proofs.OfCopied.Covers.{life_covers, life_in_chains}
use Rattle.law_commit.proofs.OfCopied.Sound.{life_sound}
use Rattle.law_commit.proofs.copied.law_copies_cover.Goals as goal

pub returns-clause-begun : goal.returns-clause-begun
returns-clause-begun c = λ opening lists events opened. life_begun opening lists events opened

pub returns-clause-stood : goal.returns-clause-stood
returns-clause-stood c = λ opening lists events opened. life_since opening lists events opened (life_sound opening lists events opened).stood

pub returns-clause-in_chains : goal.returns-clause-in_chains
returns-clause-in_chains c = λ opening start lists ghosts events opened in_order none free leads.
    life_in_chains opening start lists ghosts events (record { opened = opened; in_order = in_order; none = none; free = free; leads = leads }) (life_since opening lists events in_order (life_sound opening lists events in_order).stood)

pub returns-clause-covers : goal.returns-clause-covers
returns-clause-covers c = λ opening start lists ghosts events opened in_order none free leads ended.
    life_covers opening start lists ghosts events (record { opened = opened; in_order = in_order; none = none; free = free; leads = leads })
    (sound_left_out (opening_copy opening lists) (copy_events opening events) (life_sound opening lists events in_order)) ended

pub returns-clause-commit : goal.returns-clause-commit
returns-clause-commit c = λ opening lists events opened. life_begun_for opening events opened.keeper
