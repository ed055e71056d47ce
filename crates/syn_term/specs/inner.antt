pub mod SymbolKeys
