-- Demands states all that is promised of a run. Before it stand its terms: plans and what they earn, the run as a plan, what is asked
-- of the two picks, a list's bound, and stretches in order. After it, plans that its statements are tried on. All rest on the rules alone.
pub mod Plan
pub mod RunPlan
pub mod Lawful
pub mod Bound
pub mod Stretches
pub mod Demands
pub mod SmallPlans
pub mod FourIsNeeded
