-- Rules of the definition, cut where the code is cut.
pub mod Cut
-- What the readers of an opening tag, of a content and of a child promise.
pub mod Contract
