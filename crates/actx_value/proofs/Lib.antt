mod Positions
mod IndexLemmas
mod AddLemmas
mod NumberLemmas
