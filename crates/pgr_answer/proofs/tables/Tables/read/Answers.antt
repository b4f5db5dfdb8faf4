-- The rows that were read are put in their place.
use Rattle.std.proofs.Common.{refl}
use Rattle.pgr_answer.proofs.tables.Tables.read.Goals as goal

pub returns-in_ok-self-in-Edges-clause-read : goal.returns-in_ok-self-in-Edges-clause-read
returns-in_ok-self-in-Edges-clause-read c =
    (λ tables. record tables { edges = c.in_ok-self-in-Edges.field-0 }, rw (c.in-Edges.is, c.in_ok-self-in-Edges.ensures.verdict) refl, refl)

pub returns-in_ok-self-in-Points-clause-read : goal.returns-in_ok-self-in-Points-clause-read
returns-in_ok-self-in-Points-clause-read c =
    (λ tables. record tables { points = c.in_ok-self-in-Points.field-0 }, rw (c.in-Points.is, c.in_ok-self-in-Points.ensures) refl, refl)

pub returns-in_ok-self-in-Restrictions-clause-read : goal.returns-in_ok-self-in-Restrictions-clause-read
returns-in_ok-self-in-Restrictions-clause-read c =
    (λ tables. record tables { restrictions = c.in_ok-self-in-Restrictions.field-0 }, rw (c.in-Restrictions.is, c.in_ok-self-in-Restrictions.ensures) refl, refl)

pub returns-in_ok-self-in-Combinations-clause-read : goal.returns-in_ok-self-in-Combinations-clause-read
returns-in_ok-self-in-Combinations-clause-read c =
    (λ tables. record tables { combinations = c.in_ok-self-in-Combinations.field-0 }, rw (c.in-Combinations.is, c.in_ok-self-in-Combinations.ensures) refl, refl)

pub returns-in_ok-self-in-Capacities-clause-read : goal.returns-in_ok-self-in-Capacities-clause-read
returns-in_ok-self-in-Capacities-clause-read c =
    (λ tables. record tables { capacities = c.in_ok-self-in-Capacities.field-0 }, rw (c.in-Capacities.is, c.in_ok-self-in-Capacities.ensures) refl, refl)

pub returns-in_ok-self-in-PlacedEdges-clause-read : goal.returns-in_ok-self-in-PlacedEdges-clause-read
returns-in_ok-self-in-PlacedEdges-clause-read c =
    (λ tables. record tables { edges = c.in_ok-self-in-PlacedEdges.field-0 }, rw (c.in-PlacedEdges.is, c.in_ok-self-in-PlacedEdges.ensures.verdict) refl, refl)
