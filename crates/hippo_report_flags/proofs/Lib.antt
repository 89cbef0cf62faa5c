mod JsonLemmas
