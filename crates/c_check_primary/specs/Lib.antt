pub mod CalleeView
