mod LineLemmas
mod PadLemmas
