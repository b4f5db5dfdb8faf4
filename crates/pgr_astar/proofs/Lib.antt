mod Checks
mod OneTarget
mod PointLemmas
mod EstimateLemmas
mod Examples
