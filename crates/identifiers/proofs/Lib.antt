pub mod IdentifierTheorem
