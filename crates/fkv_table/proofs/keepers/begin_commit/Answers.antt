-- The commit's start is added behind what others have done, and the machine has begun it.
use Rattle.std.proofs.Common.{◌∙◌, ap}
use Rattle.fkv_base.specs.declared.commits.CommitKind.{CommitKind}
use Rattle.fkv_base.specs.declared.commits.CommitKind.TheVariants.{Full, Log}
use Rattle.fkv_keeper.specs.Keeping.{commit_asked}
use Rattle.fkv_table.specs.Planes.{opening_of}
use Rattle.fkv_table.proofs.KeeperCommits.{commit_begins}
use Rattle.fkv_table.proofs.KeeperNotes.{commit_on, spares_commit}
use Rattle.fkv_table.proofs.keepers.begin_commit.Goals as goal

pub note-requires-clause-spares : goal.note-requires-clause-spares
note-requires-clause-spares g c = spares_commit (opening_of g.D.Device.seen) _ _ c.args.machine.now c.requires.table.1.opening c.requires.keeping Full

pub note-requires-in-Log-clause-spares : goal.note-requires-in-Log-clause-spares
note-requires-in-Log-clause-spares g c = spares_commit (opening_of g.D.Device.seen) _ _ c.args.machine.now c.requires.table.1.opening c.requires.keeping Log

pub returns-in-Full-clause-keeping : goal.returns-in-Full-clause-keeping
returns-in-Full-clause-keeping g c =
    let k = c.args.machine.now in
    commit_on (opening_of g.D.Device.seen) _ _ k c.requires.table.1.opening c.requires.keeping Full c.note.new.seat.me c.begin_commit.new.self c.requires.idle c.note.ensures.noted
    (c.begin_commit.ensures.next ∙ ap (λ (kind : CommitKind). record k { state = commit_asked k.state kind }) c.in-Full.is)

pub returns-in-Log-clause-keeping : goal.returns-in-Log-clause-keeping
returns-in-Log-clause-keeping g c =
    let k = c.args.machine.now in
    commit_on (opening_of g.D.Device.seen) _ _ k c.requires.table.1.opening c.requires.keeping Log c.note-in-Log.new.seat.me c.begin_commit.new.self c.requires.idle c.note-in-Log.ensures.noted
    (c.begin_commit.ensures.next ∙ ap (λ (kind : CommitKind). record k { state = commit_asked k.state kind }) c.in-Log.is)

pub returns-in-Full-clause-beginning : goal.returns-in-Full-clause-beginning
returns-in-Full-clause-beginning g c = commit_begins c.args.machine.now c.begin_commit.new.self c.args.kind c.begin_commit.ensures.next

pub returns-in-Log-clause-beginning : goal.returns-in-Log-clause-beginning
returns-in-Log-clause-beginning g c = commit_begins c.args.machine.now c.begin_commit.new.self c.args.kind c.begin_commit.ensures.next
