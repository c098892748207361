-- What the shelf and the sink in memory hold.
use Rattle.std.specs.Prelude.{ℕ, List}

-- a shelf: its files, which fetches fail, how many there were, which names failed
pub record ListShelfParts : Type 0 where
  pub files : List (List ℕ × List ℕ)
  pub fails : List ℕ
  pub calls : ℕ
  pub failed : List (List ℕ)

-- a sink: how much it takes at once, which writes fail, how many there were, how many failed, what it took
pub record MemSinkParts : Type 0 where
  pub cut : ℕ
  pub fails : List ℕ
  pub calls : ℕ
  pub faults : ℕ
  pub bytes : List ℕ
