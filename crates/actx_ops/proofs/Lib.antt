mod DecimalLemmas
mod ReadLemmas
