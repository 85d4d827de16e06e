pub mod SheetRules
