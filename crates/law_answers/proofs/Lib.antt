mod OfAnswered
mod OfBeginnings
mod OfEffects
