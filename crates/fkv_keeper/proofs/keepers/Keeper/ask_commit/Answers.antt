-- As long as it asks nothing is begun, and at its end the commit in hand is what was told.
use Rattle.std.proofs.Common.{rules, ◌≡◌, ◌∙◌, refl, sym, ap, subst, [], true, false}
use Rattle.fkv_plane.specs.Passing.{is_done}
use Rattle.fkv_epoch.specs.Claiming.{takes_action}
use Rattle.fkv_keeper.specs.Keeping.{KeeperModel, KeeperState, commit_asked, keeper_ask}
use Rattle.fkv_keeper.proofs.BeginRun.{Begins, asked_keeps, begins_next, begin_ends, begin_stops, begin_idle, begin_takes, broken_begun}
use Rattle.fkv_keeper.specs.WholeCalls.{IsCallSoFar}
use Rattle.fkv_keeper.proofs.KeeperLeft.{never}
use Rattle.fkv_keeper.proofs.WholeCalls.{call_first, call_of, so_far, put_steps, word_steps}
use Rattle.fkv_keeper.proofs.keepers.Keeper.ask_commit.Goals as goal

pub returns-then-self-clause-told : goal.returns-then-self-clause-told
returns-then-self-clause-told c =
    let before = c.args.self.now in
    let its : c.begin_commit.new.self ≡ record before { state = commit_asked before.state c.args.kind } = c.begin_commit.ensures.next in
    let broken : c.begin_commit.new.self.state.is_broken ≡ true = search rules in
    let refused = broken_begun before.shape before.places before.state c.args.kind (rw its at broken) in
    rw (its, refused.0) refl

pub returns-then-self-clause-begun : goal.returns-then-self-clause-begun
returns-then-self-clause-begun c =
    let before = c.args.self.now in
    let its : c.begin_commit.new.self ≡ record before { state = commit_asked before.state c.args.kind } = c.begin_commit.ensures.next in
    let broken : c.begin_commit.new.self.state.is_broken ≡ true = search rules in
    let refused = broken_begun before.shape before.places before.state c.args.kind (rw its at broken) in
    rw its refused.1

pub returns-in-Done-clause-begun : goal.returns-in-Done-clause-begun
returns-in-Done-clause-begun c =
    let now = c.asks.self in
    let same : c.begin_commit.new.self.state.commit ≡ c.args.self.now.state.commit = ap (λ (k : KeeperModel). k.state.commit) c.begin_commit.ensures.next ∙ asked_keeps c.args.self.now.state c.args.kind in
    rw (← same) (begin_ends _ now.shape now.places now.state c.in-Done.told c.begin_told.result c.asks.invariant.begins (sym c.ask.ensures ∙ c.in-Done.is) c.begin_told.ensures)

pub returns-in-Take-clause-begun : goal.returns-in-Take-clause-begun
returns-in-Take-clause-begun c =
    let now = c.asks.self in
    let same : c.begin_commit.new.self.state.commit ≡ c.args.self.now.state.commit = ap (λ (k : KeeperModel). k.state.commit) c.begin_commit.ensures.next ∙ asked_keeps c.args.self.now.state c.args.kind in
    begin_stops _ now.shape now.places now.state c.asks.invariant.begins (ap is_done (sym c.ask.ensures ∙ c.in-Take.is)) ∙ same

pub asks-preserved-in-Put : goal.asks-preserved-in-Put
asks-preserved-in-Put c =
    let now = c.asks.self in
    let next = ap (λ (k : KeeperModel). k.state) c.go_on.ensures.next in
    record {
      shape = ap (λ (k : KeeperModel). k.shape) c.go_on.ensures.next ∙ c.asks.invariant.shape;
      places = ap (λ (k : KeeperModel). k.places) c.go_on.ensures.next ∙ c.asks.invariant.places;
      asked = subst (λ (k : KeeperModel). IsCallSoFar k.shape k.places c.begin_commit.new.self.state c.args.plane.now k.state c.put.new.self) (sym c.go_on.ensures.next) (so_far now.shape now.places _ _ _ now.state _ c.asks.plane _ c.asks.invariant.asked (put_steps now.shape now.places now.state _ c.asks.plane _ c.in-Put.slot c.in-Put.action c.go_on.new.self.state.is_granted (sym c.ask.ensures ∙ c.in-Put.is) c.put.ensures.after refl));
      begins = subst (λ (s : KeeperState). Begins c.begin_commit.new.self.state.commit s s.step) (sym next) (begins_next _ now.shape now.places now.state _ _ c.asks.invariant.begins (ap is_done (sym c.ask.ensures ∙ c.in-Put.is)));
    }

pub asks-preserved : goal.asks-preserved
asks-preserved c =
    let now = c.asks.self in
    let asks : is_done (keeper_ask now.shape now.places now.state) ≡ false = search rules in
    let next = ap (λ (k : KeeperModel). k.state) c.go_on-in_default.ensures.next in
    record {
      shape = ap (λ (k : KeeperModel). k.shape) c.go_on-in_default.ensures.next ∙ c.asks.invariant.shape;
      places = ap (λ (k : KeeperModel). k.places) c.go_on-in_default.ensures.next ∙ c.asks.invariant.places;
      asked = subst (λ (k : KeeperModel). IsCallSoFar k.shape k.places c.begin_commit.new.self.state c.args.plane.now k.state c.perform-reply.new.self) (sym c.go_on-in_default.ensures.next) (so_far now.shape now.places _ _ _ now.state _ c.asks.plane _ c.asks.invariant.asked (word_steps now.shape now.places now.state _ c.asks.plane _ c.ask.result _ c.go_on-in_default.new.self.state.is_granted c.ask.ensures c.in_default.not-Put c.in_default.not-Take c.in_default.not-Done c.perform-reply.ensures.reply c.perform-reply.ensures.after refl));
      begins = subst (λ (s : KeeperState). Begins c.begin_commit.new.self.state.commit s s.step) (sym next) (begins_next _ now.shape now.places now.state _ _ c.asks.invariant.begins asks);
    }

pub returns-then-self-clause-ended : goal.returns-then-self-clause-ended
returns-then-self-clause-ended c =
    let before = c.args.self.now in
    let its : c.begin_commit.new.self ≡ record before { state = commit_asked before.state c.args.kind } = c.begin_commit.ensures.next in
    let broken : c.begin_commit.new.self.state.is_broken ≡ true = search rules in
    let refused = broken_begun before.shape before.places before.state c.args.kind (rw its at broken) in
    rw (its, refused.0) refl

pub returns-then-self-clause-asked : goal.returns-then-self-clause-asked
returns-then-self-clause-asked c =
    let before = c.args.self.now in
    let begun = commit_asked before.state c.args.kind in
    subst (λ (k : KeeperModel). IsCallSoFar before.shape before.places begun c.args.plane.now k.state c.args.plane.now) (sym c.begin_commit.ensures.next) ([], call_first before.shape before.places begun c.args.plane.now)

pub asks-init : goal.asks-init
asks-init c =
    let begun = c.begin_commit.new.self in
    record { shape = refl; places = refl; asked = ([], call_first begun.shape begun.places begun.state c.args.plane.now); begins = search rules }

pub returns-in-Done-clause-ended : goal.returns-in-Done-clause-ended
returns-in-Done-clause-ended c =
    let now = c.asks.self in
    let idle = begin_idle _ now.shape now.places now.state c.in-Done.told c.asks.invariant.begins (sym c.ask.ensures ∙ c.in-Done.is) in
    let shape : now.shape ≡ c.args.self.now.shape = c.asks.invariant.shape ∙ ap (λ (k : KeeperModel). k.shape) c.begin_commit.ensures.next in
    let places : now.places ≡ c.args.self.now.places = c.asks.invariant.places ∙ ap (λ (k : KeeperModel). k.places) c.begin_commit.ensures.next in
    rw (← shape, ← places) idle

pub returns-in-Done-clause-asked : goal.returns-in-Done-clause-asked
returns-in-Done-clause-asked c =
    let next = c.begin_commit.ensures.next in
    call_of _ _ _ _ _ _ _ _ _ (c.asks.invariant.shape ∙ ap (λ (k : KeeperModel). k.shape) next) (c.asks.invariant.places ∙ ap (λ (k : KeeperModel). k.places) next) (ap (λ (k : KeeperModel). k.state) next) c.asks.invariant.asked

pub returns-in-Take-clause-ended : goal.returns-in-Take-clause-ended
returns-in-Take-clause-ended c =
    let now = c.asks.self in
    never (sym (ap takes_action (sym c.ask.ensures ∙ c.in-Take.is)) ∙ begin_takes _ now.shape now.places now.state c.asks.invariant.begins)

pub returns-in-Take-clause-asked : goal.returns-in-Take-clause-asked
returns-in-Take-clause-asked c =
    let next = c.begin_commit.ensures.next in
    call_of _ _ _ _ _ _ _ _ _ (c.asks.invariant.shape ∙ ap (λ (k : KeeperModel). k.shape) next) (c.asks.invariant.places ∙ ap (λ (k : KeeperModel). k.places) next) (ap (λ (k : KeeperModel). k.state) next) c.asks.invariant.asked
