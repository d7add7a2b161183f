-- By the law of cuts of a session's own run: what it has stored last stands.
use Rattle.std.specs.Prelude.{ℕ}
use Rattle.fkv_plane.specs.Asked.{word_at}
use Rattle.law_refine.specs.Below.fkv_world.World.{seat_at}
use Rattle.law_commit.specs.Cuts.{stored_by_session, word_now}
use Rattle.law_commit.proofs.OfCuts.Always.{always_told}
use Rattle.law_commit.proofs.OfCuts.Left.{life_left}
use Rattle.law_commit.proofs.OfCuts.Marks.{life_marks}
use Rattle.law_commit.proofs.OfCuts.Serials.{life_most}
use Rattle.law_commit.proofs.OfCuts.Told.{cut_asleep, marks_told, owed_near, told_in_order}
use Rattle.law_commit.proofs.OfPhases.LifeStages.{first_version, rising_version}
use Rattle.law_commit.proofs.cuts.law_cuts_stand.Goals as goal

pub returns-clause-told : goal.returns-clause-told
returns-clause-told c = λ opening events session first its serial became words rests left.
    marks_told (seat_at opening.now session) its (λ place. word_now opening events place) (λ place. stored_by_session opening session first events place)
    (λ place mark. life_marks opening events session first place became.opened words became.was mark) serial
    (c.law_world_cuts.ensures.told opening events session first its (λ (at : ℕ). word_at opening.now.words at) serial became rests left)

pub returns-clause-asleep : goal.returns-clause-asleep
returns-clause-asleep c = λ opening events session first its became words asleep other.
    cut_asleep (seat_at opening.now session) its (λ place. word_now opening events place) (λ place. stored_by_session opening session first events place)
    (λ place mark. life_marks opening events session first place became.opened words became.was mark)
    (c.law_world_cuts.ensures.asleep opening events session first its (λ (at : ℕ). word_at opening.now.words at) became asleep other)

pub returns-clause-leaves : goal.returns-clause-leaves
returns-clause-leaves c = λ opening events session first its became words leaves.
    cut_asleep (seat_at opening.now session) its (λ place. word_now opening events place) (λ place. stored_by_session opening session first events place)
    (λ place mark. life_marks opening events session first place became.opened words became.was mark)
    (c.law_world_cuts.ensures.leaves opening events session first its (λ (at : ℕ). word_at opening.now.words at) became leaves)

pub returns-clause-in_order : goal.returns-clause-in_order
returns-clause-in_order c = λ opening events session first its serial became words left.
    told_in_order (seat_at opening.now session) its (λ place. word_now opening events place) (λ place. stored_by_session opening session first events place)
    (λ place mark. life_marks opening events session first place became.opened words became.was mark) serial
    (c.law_world_cuts.ensures.in_order opening events session first its (λ (at : ℕ). word_at opening.now.words at) serial became left)

pub returns-clause-polls_owing : goal.returns-clause-polls_owing
returns-clause-polls_owing c = λ opening events session first its index serial became words stores left.
    owed_near (seat_at opening.now session) its (λ place. word_now opening events place) (λ place. stored_by_session opening session first events place)
    (λ place mark. life_marks opening events session first place became.opened words became.was mark)
    (c.law_world_cuts.ensures.polls_owing opening events session first its (λ (at : ℕ). word_at opening.now.words at) index serial became stores left)

pub returns-clause-always : goal.returns-clause-always
returns-clause-always c = λ opening events session first its became words shows. always_told opening events session first its became words shows

pub returns-clause-left : goal.returns-clause-left
returns-clause-left c = λ opening start events session first its became guarded rests.
    life_left opening events session first its became (first_version opening session first its events became rests) (rising_version opening start events session first its became guarded rests)

pub returns-clause-serials : goal.returns-clause-serials
returns-clause-serials c = λ opening events session first its place became words shows cut. life_most opening events session first its place became words shows cut
