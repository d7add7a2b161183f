-- Memory is asked for only where the phase is loaded, so not where an action is put into its slot.
use Rattle.std.proofs.Common.{◌≡◌, ◌∙◌, sym, ap, ℕ, Bool, true, List, refl}
use Rattle.std.specs.Prelude.{slice_set, Some}
use Rattle.fkv_base.specs.declared.shapes.Shape.{Shape}
use Rattle.fkv_keeper.specs.declared.answers.KeeperTold.{KeeperTold}
use Rattle.fkv_keeper.specs.declared.keepers.Keeping.{Keeping}
use Rattle.fkv_keeper.specs.declared.keepers.Keeping.TheVariants.{LoadsPhase}
use Rattle.fkv_keeper.specs.Keeping.{KeeperState, keeping_ask, keeping_next, keeper_ask, keeper_next}
use Rattle.fkv_plane.specs.declared.actions.Action.{Action}
use Rattle.fkv_plane.specs.declared.asks.Ask.{Ask}
use Rattle.fkv_plane.specs.declared.asks.Ask.TheVariants.{Put, Take, Done}
use Rattle.fkv_plane.specs.declared.places.Places.{Places}
use Rattle.fkv_session.specs.Sessions.{is_word_ask}
use Rattle.fkv_world.specs.Moves.{Near, keeper_settled, keeper_replied, keeper_asks, keeper_moved}

pub put_is_granted : (shape : Shape) (p : Places) (s : KeeperState) (step : Keeping) (slot : ℕ) (action : Action) (reply : ℕ) (granted other : Bool) → keeping_ask shape p s step ≡ Put slot action → keeping_next shape p s step reply granted ≡ keeping_next shape p s step reply other
unfolding keeping_ask keeping_next
put_is_granted shape p s LoadsPhase slot action reply granted other puts = cc
put_is_granted shape p s step slot action reply granted other puts = refl

-- where an action is put into its slot memory doesn't count
pub put_settled : (shape : Shape) (p : Places) (n : Near KeeperState) (after : KeeperState) (asked : Ask KeeperTold) (slot : ℕ) (action : Action) (granted other : Bool)
    → asked ≡ keeper_ask shape p n.machine → asked ≡ Put slot action → after ≡ keeper_next shape p n.machine 0 granted
    → record n { machine = after; actions = slice_set n.actions slot (Some action) } ≡ keeper_settled shape p other n asked
unfolding keeper_settled
put_settled shape p n after asked slot action granted other is puts goes =
    let same : after ≡ keeper_next shape p n.machine 0 other = goes ∙ put_is_granted shape p n.machine n.machine.step slot action 0 granted other (sym is ∙ puts) in
    ap (λ (s : KeeperState). record n { machine = s; actions = slice_set n.actions slot (Some action) }) same ∙ sym (ap (λ (ask : Ask KeeperTold). keeper_settled shape p other n ask) puts)

-- an ask of a word is replied to, and the action that goes with it is moved
word_moved : (shape : Shape) (p : Places) (n : Near KeeperState) (granted done : Bool) (read : List ℕ) (ask : Ask KeeperTold) → is_word_ask ask ≡ true
    → keeper_asks shape p granted done read n ask ≡ keeper_settled shape p granted (keeper_replied shape p granted n ask) (keeper_ask shape p (keeper_replied shape p granted n ask).machine)
unfolding keeper_asks
word_moved shape p n granted done read (Done its) word = cc
word_moved shape p n granted done read (Put slot action) word = cc
word_moved shape p n granted done read (Take slot) word = cc
word_moved shape p n granted done read ask word = refl

pub two_steps : (shape s : Shape) (places p : Places) (n n1 n2 : Near KeeperState) (granted done : Bool) (read : List ℕ) (ask : Ask KeeperTold) → ask ≡ keeper_ask shape places n.machine → is_word_ask ask ≡ true
    → s ≡ shape → p ≡ places → n1 ≡ keeper_replied shape places granted n ask → n2 ≡ keeper_settled s p granted n1 (keeper_ask s p n1.machine) → n2 ≡ keeper_moved shape places granted done read n
two_steps shape s places p n n1 n2 granted done read ask asked word same also first then =
    then
    ∙ ap (λ (it : Shape). keeper_settled it p granted n1 (keeper_ask it p n1.machine)) same
    ∙ ap (λ (it : Places). keeper_settled shape it granted n1 (keeper_ask shape it n1.machine)) also
    ∙ ap (λ (it : Near KeeperState). keeper_settled shape places granted it (keeper_ask shape places it.machine)) first
    ∙ sym (word_moved shape places n granted done read ask word)
    ∙ ap (λ (it : Ask KeeperTold). keeper_asks shape places granted done read n it) asked
