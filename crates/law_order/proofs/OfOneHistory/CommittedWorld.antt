-- The world of the life with two commits is one with which a new store opens: that of the worked lives, with a keeper of which all is known that a commit needs.
use Rattle.std.proofs.Common.{◌≡◌, List, [], ◌∷◌, true, false, refl, sym, ap}
use Rattle.std.specs.Prelude.{None}
use Rattle.fkv_base.specs.declared.classes.StoreClass.TheVariants.{Specified}
use Rattle.fkv_base.specs.declared.numbers.Addr.{Addr}
use Rattle.fkv_base.specs.declared.numbers.Serial.{Serial}
use Rattle.fkv_base.specs.declared.numbers.Version.{Version}
use Rattle.fkv_base.specs.declared.shapes.Shape.{Shape}
use Rattle.fkv_sweep.specs.Sweeping.{sweep_begun}
use Rattle.law_opening.specs.Below.fkv_core.Openings.{IsOpeningWorld, area_numbered, newest_commit}
use Rattle.law_opening.specs.Below.fkv_creating.Created.{IsNewStore}
use Rattle.law_commit.specs.Below.fkv_flush.TheFlushing.TheVariants.{AtRest}
use Rattle.law_commit.specs.Below.fkv_keeper.Keeping.{Finality, KeeperState}
use Rattle.law_commit.specs.Below.fkv_keeper.NewKeepers.{IsNewKeeper}
use Rattle.law_commit.specs.Below.fkv_keeper.KeeperTold.TheVariants.{Turned}
use Rattle.law_commit.specs.Below.fkv_keeper.TheKeeping.TheVariants.{Ended}
use Rattle.law_commit.specs.Below.fkv_keeper.Area.TheVariants.{First}
use Rattle.law_commit.specs.Below.fkv_keeper.Checkpoint.{Checkpoint}
use Rattle.law_opening.specs.Below.fkv_opening.TheOpened.{Opened}
use Rattle.fkv_record.specs.Points.{serial_numbers}
use Rattle.law_commit.specs.Below.fkv_session.Sessions.{SessionState}
use Rattle.law_commit.specs.Below.fkv_world.World.{Now}
use Rattle.law_order.proofs.OfOneHistory.WorkedShape.{places, shape}
use Rattle.law_order.proofs.OfOneHistory.WorkedWorld.{its_class, world_opens, worked_now}

-- ---- its keeper
abbrev pub new_checkpoint : Checkpoint
new_checkpoint = record { number = record { 0 = 0 }; first = record { 0 = 1 }; triples = 0; area = First }

abbrev pub new_finality : Finality
new_finality = record { number = record { 0 = 0 }; begin = record { 0 = 1 }; points = record { 0 = 0 } ∷ record { 0 = 0 } ∷ []; checkpoint = new_checkpoint; gates = (true, false) }

abbrev pub new_keeper : KeeperState → KeeperState
new_keeper k = record k {
  maintain = record k.maintain { flushing = AtRest };
  start = record k.start { asked = record k.start.asked { class = Specified } };
  copy = None;
  seek = record k.seek { sessions = 2 };
  sweep = sweep_begun shape places new_finality.begin new_finality.begin;
  finish = record k.finish { sessions = 2 };
  commit = None;
  has_entered = false;
  has_points = false;
  is_granted = true;
  is_broken = false;
  is_drain_full = false;
  has_finished = false;
  rests = false;
  used = new_checkpoint;
  last = new_finality;
  lost = [];
  step = Ended (Turned false false);
}

-- ---- what a new store says
version_is : (x y : Version) → x.0 ≡ y.0 → x ≡ y
version_is x y e = λ i. record { 0 = e i }

addr_is : (x y : Addr) → x.0 ≡ y.0 → x ≡ y
addr_is x y e = λ i. record { 0 = e i }

serial_is : (x y : Serial) → x.0 ≡ y.0 → x ≡ y
serial_is x y e = λ i. record { 0 = e i }

same_serials : (xs ys : List Serial) → serial_numbers xs ≡ serial_numbers ys → xs ≡ ys
same_serials [] [] e = refl
same_serials [] (y ∷ ys) e = cc
same_serials (x ∷ xs) [] e = cc
same_serials (x ∷ xs) (y ∷ ys) e =
    let first : x ≡ y = serial_is x y (cc) in
    let rest : xs ≡ ys = same_serials xs ys (cc) in
    cc

module _ (o : Opened) (new : IsNewStore shape o) where
  checkpoint_is : (newest_commit o).checkpoint ≡ new_checkpoint
  checkpoint_is = λ i. record { number = number i; first = first i; triples = new.triples i; area = area i }
    where
      number : o.checkpoint.number ≡ record { 0 = 0 }
      number = version_is o.checkpoint.number (record { 0 = 0 }) new.checkpoint

      first : o.checkpoint.first ≡ record { 0 = 1 }
      first = addr_is o.checkpoint.first (record { 0 = 1 }) new.first

      area : area_numbered o.checkpoint.area ≡ First
      area = ap area_numbered new.area

  points_are : o.points.items ≡ record { 0 = 0 } ∷ record { 0 = 0 } ∷ []
  unfolding shape
  points_are = same_serials o.points.items (record { 0 = 0 } ∷ record { 0 = 0 } ∷ []) new.points

  finality_is : newest_commit o ≡ new_finality
  finality_is = λ i. record { number = number i; begin = begin i; points = points_are i; checkpoint = checkpoint_is i; gates = (new.gate_0 i, new.gate_1 i) }
    where
      number : o.number ≡ record { 0 = 0 }
      number = version_is o.number (record { 0 = 0 }) new.number

      begin : o.begin ≡ record { 0 = 1 }
      begin = addr_is o.begin (record { 0 = 1 }) new.begin

  two_sessions : 2 ≡ o.shape.sessions
  unfolding shape
  two_sessions = ap (λ (s : Shape). s.sessions) (sym new.its_shape)

  keeper_opens : (n : Now) (one other : SessionState) → one.floor ≡ o.begin → other.floor ≡ o.begin → IsOpeningWorld o n → IsNewKeeper o.shape (newest_commit o) o.lost.items (record { shape = shape; places = places; state = new_keeper n.keeper })
  unfolding worked_now
  keeper_opens n one other floor second its =
      let was = its.its_keeper in
      let there = (world_opens o new n one other floor second its).its_keeper in
      record {
        its_shape = there.its_shape;
        its_places = there.its_places;
        newest = sym finality_is;
        serves_from = was.serves_from;
        used = sym checkpoint_is;
        class = its_class o new;
        in_hand = sym new.lost;
        its_sessions = two_sessions;
        sought = two_sessions;
        no_call = refl;
        turns_rest = was.turns_rest;
        no_commit = refl;
        no_copy = refl;
        not_entered = refl;
        no_points = refl;
        none_finished = refl;
        none_left_out = refl;
        works = refl;
        granted = refl;
        none_rest = refl;
        none_flushed = refl;
        none_swept = ap (λ (last : Finality). sweep_begun shape places last.begin last.begin) (sym finality_is);
      }

  pub committed_opens : (n : Now) (one other : SessionState) → one.floor ≡ o.begin → other.floor ≡ o.begin → IsOpeningWorld o n → IsOpeningWorld o (worked_now (new_keeper n.keeper) one other)
  unfolding worked_now
  committed_opens n one other floor second its =
      let there = world_opens o new n one other floor second its in
      record {
        its_shape = there.its_shape;
        its_places = there.its_places;
        its_words = there.its_words;
        no_actions = there.no_actions;
        seats = there.seats;
        its_sessions = there.its_sessions;
        its_keeper = keeper_opens n one other floor second its;
        goes_on = refl;
      }
