mod RangeLemmas
mod SpanLemmas
mod PushLemmas
