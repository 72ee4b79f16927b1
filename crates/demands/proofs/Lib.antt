-- Demand 2's sentence about the report, on small plans.
pub mod Basic
-- The report's procedures and the figures of every plan within the limits.
pub mod Agreement
-- The demands, of whatever keeps the promises.
pub mod Demands
-- What breaks them.
pub mod Impostors
-- What meets the premises.
pub mod Meets
-- The promises can be kept.
pub mod Answers
-- What an accepted record holds.
pub mod Record
-- Import and export.
pub mod Exchange
-- What a call answered, and what a quotation said; then open-ended ringing, which end was wrong, teams, and calls that begin answered.
pub mod Said
pub mod OpenRinging
pub mod WhichEnd
pub mod Teams
pub mod BegunAnswered
-- One pass over the image.
pub mod OnePass
-- Reproducible test plans.
pub mod Generate
-- No figure is too large for the record.
pub mod FigureSize
